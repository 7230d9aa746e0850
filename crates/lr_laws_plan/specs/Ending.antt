-- The faults that end a run before anything is rotated.
use Rattle.std.specs.Prelude.{◌≡◌, ◌⊎◌, List, [], ◌∷◌, ◌++◌}
use Rattle.lr_rules.specs.declared.fault.CallKind.TheVariants as call
use Rattle.lr_rules.specs.declared.fault.Fault.{Fault}
use Rattle.lr_rules.specs.declared.fault.Fault.TheVariants as fault
use Rattle.lr_rules.specs.declared.path.Path.{Path}
use Rattle.lr_rules.specs.Path.{parent_of}
use Rattle.lr_rules.specs.StatePath.{state_part}
use Rattle.lr_host.specs.Lists.{IsIn}

-- A fault that ends a run, wherever it is told: no clock, or no zone; a text of the state that isn't right or could become too big;
-- no directory for the state; another thing than a file at its path or at that of its part file; a begin that failed.
abbrev pub EndsRun : Path → Fault → Type 0
EndsRun state fault.Clock = Unit {0}
EndsRun state (fault.Zone why) = Unit {0}
EndsRun state (fault.State line kind) = Unit {0}
EndsRun state (fault.NoDir path) = path ≡ parent_of state
EndsRun state (fault.NotFile path) = (path ≡ state) ⊎ (path ≡ state_part state)
EndsRun state (fault.Call call.Begin path) = Unit {0}
EndsRun state _ = ⊥

-- none of these does
abbrev pub NoneEnds : Path → List Fault → Type 0
NoneEnds state [] = Unit {0}
NoneEnds state (f ∷ fs) = (EndsRun state f → ⊥) × NoneEnds state fs

-- A look failed at the state's directory, at its path or at that of its part file, or a read of its text. Made for the state, it
-- ends a run; made for a log that is asked for by such a path, or for a configuration there, it ends none.
abbrev pub MayEnd : Path → Fault → Type 0
MayEnd state f = ((path : Path) × IsIn path (parent_of state ∷ state ∷ state_part state ∷ [])
    × (f ≡ fault.Call call.Look path)) ⊎ (f ≡ fault.Call call.Read state)

-- The last of the faults is why the run ended: it is one that ends a run, or the one fault is such a look or read.
pub record SaysWhyRun (state : Path) (own : List Fault) : Type 0 where
  pub before : List Fault
  pub last : Fault
  pub own_are : own ≡ before ++ last ∷ []
  pub ends : EndsRun state last ⊎ ((before ≡ []) × MayEnd state last)
