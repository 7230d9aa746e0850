-- When a call prints all that stands.
use Rattle.std.specs.Prelude.{◌≡◌, ◌≢◌, ◌≤◌, ℕ, Bool, true, length, Option, Some, None, Ok}
use Rattle.lr_rules.specs.declared.path.Path.{Path}
use Rattle.lr_rules.specs.Names.{aside_path}
use Rattle.lr_rules.specs.Path.{parent_of}
use Rattle.lr_host.specs.declared.thing.Thing.{Thing}
use Rattle.lr_host.specs.declared.thing.Thing.TheVariants as thing
use Rattle.lr_host.specs.Fits.{IsDirectoryAt}
use Rattle.lr_host.specs.Lists.{IsIn}
use Rattle.lr_host.specs.Quiet.{AttachedOnlySince}
use Rattle.lr_host.specs.Told.{Counts, Rose}
use Rattle.lr_host.specs.World.{Past, world, names}
use Rattle.lr_family.specs.Parts.{IsMember}
use Rattle.lr_cat.specs.declared.outcome.CatOutcome.{CatOutcome}
use Rattle.lr_cat.specs.declared.outcome.CatOutcome.TheVariants.{Done, NoLog, OutOfMemory}
use Rattle.lr_cat.specs.declared.words.Wanted.{Wanted}
use Rattle.lr_cat.specs.Came.{Came, report_by}
use Rattle.lr_cat.specs.Texts.{FileText}

-- a regular file, or nothing; a directory, or nothing
abbrev pub IsFileOrNone : Thing → Type 0
IsFileOrNone thing.Nothing = Unit {0}
IsFileOrNone (thing.File g) = Unit {0}
IsFileOrNone _ = ⊥

abbrev pub IsDirOrNone : Thing → Type 0
IsDirOrNone thing.Nothing = Unit {0}
IsDirOrNone thing.Directory = Unit {0}
IsDirOrNone _ = ⊥

-- neither the count of failed calls rose nor that of locks that another has, nor that of the output; at its greatest value a count
-- counts as risen
abbrev pub NoRise : Counts → Counts → ℕ → ℕ → Type 0
NoRise counted counts low high = (Rose counted.faults counts.faults → ⊥) × (Rose counted.held counts.held → ⊥)
    × (Rose low high → ⊥)

-- Between the two pasts nothing is in the way of a call that came to this.
pub record IsClear (w : Wanted) (c : Came) (before after : Past) : Type 0 where
  -- at first the state's directory stood
  pub state : IsDirectoryAt (names (world before)) (parent_of w.state)
  -- at the path of the members' directory one stood, or nothing, and no writer was attached to it, who would make a file there
  pub dir : IsDirOrNone (names (world before) c.naming.dir)
  pub spared : AttachedOnlySince (λ x. x ≢ c.naming.dir) before after
  -- at the log's path, where it waits while its way sets it aside, and at the path of each member a regular file stood, or nothing
  pub log : IsFileOrNone (names (world before) w.log)
  pub aside : c.naming.aside ≡ true → IsFileOrNone (names (world before) (aside_path w.log))
  pub members : (x : Path) → IsMember c.naming x → IsFileOrNone (names (world before) x)
  -- at the end no file that was read has more than 2^40 bytes
  pub short : (t : FileText) (g : ℕ) → IsIn t c.texts → names (world after) t.path ≡ thing.File g
      → length ((world after).files g).bytes ≤ 1_099_511_627_776

-- It came to the files of its log, and no fault of its own ended it: so it answers by the faults of the configuration alone, and
-- tells whether the log waits. Else no definition gives the log, or there was no memory.
pub data PrintsAll (outcome : CatOutcome) (came : Option Came) : Type 0 where
  printed : (c : Came) (waits : Bool) → came ≡ Some c → c.how ≡ Ok waits → outcome ≡ Done (report_by c.meaning None) waits
      → PrintsAll outcome came
  no_log : outcome ≡ NoLog → PrintsAll outcome came
  short : outcome ≡ OutOfMemory → PrintsAll outcome came
