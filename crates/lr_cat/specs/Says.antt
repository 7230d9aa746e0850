-- All that is told of a call, by what it came to.
use Rattle.std.specs.Prelude.{◌≡◌, ◌⊎◌, ℕ, ℤ, Bool, List, Option, Some, None, Ok, Contains}
use Rattle.lr_rules.specs.declared.fault.Fault.{Fault}
use Rattle.lr_rules.specs.declared.path.Path.{Path}
use Rattle.lr_host.specs.declared.journal.Journal.{Journal}
use Rattle.lr_host.specs.Counted.{calls_in, RoseBy}
use Rattle.lr_host.specs.Quiet.{ChangeNothing}
use Rattle.lr_host.specs.Safe.{KeepsSafe}
use Rattle.lr_host.specs.Told.{Counts, Left, Rose}
use Rattle.lr_host.specs.World.{past}
use Rattle.lr_clock.specs.Came.{WhereCame}
use Rattle.lr_due.specs.Zone.{IsInRange}
use Rattle.lr_report.specs.Puts.{Took, TookPart}
use Rattle.lr_cat.specs.declared.outcome.CatOutcome.{CatOutcome}
use Rattle.lr_cat.specs.declared.outcome.CatOutcome.TheVariants.{Done, Held}
use Rattle.lr_cat.specs.declared.words.Wanted.{Wanted}
use Rattle.lr_cat.specs.Came.{Came, CatShows, own_of}
use Rattle.lr_cat.specs.Complete.{IsClear, NoRise, PrintsAll}
use Rattle.lr_cat.specs.History.{IsHistory}
use Rattle.lr_cat.specs.Texts.{TookBy, joined_texts}
use Rattle.lr_cat.specs.Words.{wanted}

-- What the output took of a call that came to this: the texts that were read, one behind another, and of those only a first part
-- where its own fault ended the call; else nothing.
abbrev pub TookOf : Option Came → Option (List ℕ) → Option (List ℕ) → Type 0
TookOf None before after = after ≡ before
TookOf (Some c) before after = TookBy (own_of c.how) (joined_texts c.texts) before after

-- All that is told of a call with these words, at these seconds, by what it came to.
pub record CatSays (here : Path) (words : List (List ℕ)) (seconds : ℤ) (outcome : CatOutcome) (told later : Option Journal)
    (counted counts : Counts) (before after : Option (List ℕ)) (low high : ℕ) : Type 0 where
  -- what it came to, where it came to the files of its log
  pub came : Option Came
  -- its entries and its answer show it: the clock, what was read of the configuration, which rule gives the log, the lock, what
  -- stands, and each read, from the oldest file's first byte on; or why it came to none
  pub shown : Left (CatShows here words seconds outcome came) told later
  -- the output took those texts, in that order
  pub took : TookOf came before after
  -- no name and no byte was changed; so each set that was safe in the journal before is safe in that after, where it is steady
  pub still : Left ChangeNothing told later
  pub safe : KeepsSafe told later
  -- where no fault of its own ended it, the files are those that stood as it began, and the texts are theirs
  pub whole : (w : Wanted) → wanted here words ≡ Some w
      → WhereCame came told later (λ c j k. (waits : Bool) → c.how ≡ Ok waits → IsHistory w c (past j) (past k))
  -- none did where the words are good, the clock is in range, no count rose and nothing was in its way: then all is printed, and no
  -- fault is told but those of the configuration; unless no definition gives the log, or there was no memory
  pub complete : (w : Wanted) (j k : Journal) → wanted here words ≡ Some w → IsInRange seconds → told ≡ Some j → later ≡ Some k
      → NoRise counted counts low high → ((c : Came) → came ≡ Some c → IsClear w c (past j) (past k)) → PrintsAll outcome came

-- ---- by the counts

-- the report has the fault
abbrev pub HasFault : CatOutcome → Fault → Type 0
HasFault (Done report waits) f = Contains report.faults f
HasFault _ f = ⊥

-- No more failed calls are told than the count rose by; and another run had the lock only where that was counted.
abbrev pub HasCounted : CatOutcome → Counts → Counts → Type 0
HasCounted (Done report waits) counted counts = RoseBy (calls_in report.faults) counted.faults counts.faults
HasCounted Held counted counts = Rose counted.held counts.held
HasCounted _ counted counts = Unit {0}

-- All of the text came, or a first part, where a put failed.
pub record Noted (text : List ℕ) (before after : Option (List ℕ)) (low high : ℕ) : Type 0 where
  pub part : TookPart text before after
  pub whole : Took text before after ⊎ Rose low high
