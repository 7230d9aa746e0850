-- The promise: what is kept at each moment, and after each cut that might come then.
use Rattle.std.specs.Prelude.{◌≡◌, Option, Some, None}
use Rattle.lr_host.specs.declared.entry.Entry.{Entry}
use Rattle.lr_host.specs.declared.entry.Entry.TheVariants.{Renames, Cut}
use Rattle.lr_host.specs.declared.journal.Journal.{Journal}
use Rattle.lr_host.specs.World.{Past, Opens, ◌▸◌, past, world}
use Rattle.lr_host.specs.Fits.{Fits}
use Rattle.lr_host.specs.Opening.{IsJournal}
use Rattle.lr_host.specs.Sets.{LogSet}
use Rattle.lr_host.specs.Kept.{IsKept}
use Rattle.lr_host.specs.Steady.{IsSteady}

-- an entry of the machine
abbrev pub IsMachines : Entry → Type 0
IsMachines (Cut names_kept lengths) = Unit {0}
IsMachines _ = ⊥

-- Kept now, and after each cut that is allowed now.
pub record IsKeptNow (s : LogSet) (p : Past) : Type 0 where
  pub kept : IsKept s p
  pub cut : (c : Entry) → IsMachines c → Fits (world p) c → IsKept s (p ▸ c)

-- The first journal is a prefix of the second.
pub data IsPrefix : Past → Past → Type 0 where
  whole : {p : Past} → IsPrefix p p
  shorter : {p q : Past} {e : Entry} → IsPrefix p q → IsPrefix p (q ▸ e)

-- a rename to the log's path
abbrev pub IsToLog : LogSet → Entry → Type 0
IsToLog s (Renames from to) = to ≡ s.log
IsToLog s _ = ⊥

-- no rename goes to the log's path
abbrev pub NoneToLog : LogSet → Past → Type 0
NoneToLog s (Opens o) = Unit {0}
NoneToLog s (p ▸ e) = NoneToLog s p × (IsToLog s e → ⊥)

-- No rename goes to the log's path, and at each prefix the set is kept, now and after each cut that is allowed then.
pub record IsSafe (s : LogSet) (p : Past) : Type 0 where
  pub none_to_log : NoneToLog s p
  pub each : (q : Past) → IsPrefix q p → IsKeptNow s q

-- The promise over a call: where the journal is told, each set that was safe in the journal before is safe in the journal
-- after, where it is steady in that.
abbrev pub KeepsSafe : Option Journal → Option Journal → Type 0
KeepsSafe (Some j) (Some k) = (s : LogSet) → IsJournal (past j) → IsSafe s (past j) → IsSteady s (past k) → IsSafe s (past k)
KeepsSafe None None = Unit {0}
KeepsSafe _ _ = ⊥
