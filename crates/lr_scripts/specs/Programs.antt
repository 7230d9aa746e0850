-- Programs: what running one leaves, and why it is refused.
use Rattle.std.specs.Prelude.{◌≡◌, ◌≢◌, ◌⊎◌, pos, List, [], ◌∷◌, Option, Some, None}
use Rattle.lr_rules.specs.declared.fault.CallKind.TheVariants as call
use Rattle.lr_rules.specs.declared.fault.Ended.{Ended}
use Rattle.lr_rules.specs.declared.fault.Ended.TheVariants as ended
use Rattle.lr_rules.specs.declared.fault.Phase.{Phase}
use Rattle.lr_host.specs.declared.entry.Entry.{Entry}
use Rattle.lr_host.specs.declared.entry.Entry.TheVariants as entry
use Rattle.lr_host.specs.Told.{Counts, Rose}
use Rattle.lr_scripts.specs.declared.command.Bad.{Bad}
use Rattle.lr_scripts.specs.declared.command.Bad.TheVariants as bad
use Rattle.lr_scripts.specs.declared.command.Command.{Command}

-- the entry of a program that ended so
abbrev pub runs : Command → Ended → Entry
runs command end = entry.Runs command.program command.args command.input end

-- the entries of a program that ended with 0, where there is one
abbrev pub runs_of : Option Command → List Entry
runs_of None = []
runs_of (Some command) = runs command (ended.Exit (pos 0)) ∷ []

-- What a refused program leaves: its entry with the bad end that is told; of a failed call its entry with some end, or none; for
-- want of memory none.
abbrev pub RunRefused : Command → Bad → List Entry → Type 0
RunRefused command (bad.Script phase end) ts = (end ≢ ended.Exit (pos 0)) × (ts ≡ runs command end ∷ [])
RunRefused command (bad.Call kind) ts = (ts ≡ []) ⊎ ((end : Ended) × (ts ≡ runs command end ∷ []))
RunRefused command bad.Memory ts = ts ≡ []

-- the same, where there is a program
abbrev pub MaybeRefused : Option Command → Bad → List Entry → Type 0
MaybeRefused None why ts = ⊥
MaybeRefused (Some command) why ts = RunRefused command why ts

-- Why a program of this phase is refused: it ended badly, and bad ends rose; the run failed, and faults rose; want of memory.
abbrev pub RunCause : Phase → Bad → Counts → Counts → Type 0
RunCause phase (bad.Script told end) before now = (told ≡ phase) × (end ≢ ended.Exit (pos 0)) × Rose before.bad_ends now.bad_ends
RunCause phase (bad.Call kind) before now = (kind ≡ call.Run) × Rose before.faults now.faults
RunCause phase bad.Memory before now = Unit {0}

-- the same, where there is a program
abbrev pub MaybeCause : Phase → Option Command → Bad → Counts → Counts → Type 0
MaybeCause phase None why before now = ⊥
MaybeCause phase (Some command) why before now = RunCause phase why before now
