-- The faults that end a dry run before its plan.
use Rattle.std.specs.Prelude.{◌≡◌, ◌⊎◌, List, [], ◌∷◌, ◌++◌}
use Rattle.lr_rules.specs.declared.fault.Fault.{Fault}
use Rattle.lr_rules.specs.declared.fault.Fault.TheVariants as fault
use Rattle.lr_rules.specs.declared.path.Path.{Path}
use Rattle.lr_rules.specs.Path.{parent_of}
use Rattle.lr_laws_plan.specs.Ending.{EndsRun, MayEnd}

-- A fault that ends a dry run, wherever it is told: one that ends a run, but for a directory that isn't there.
abbrev pub EndsTry : Path → Fault → Type 0
EndsTry state (fault.NoDir path) = ⊥
EndsTry state f = EndsRun state f

-- none of these does
abbrev pub NoneEndsTry : Path → List Fault → Type 0
NoneEndsTry state [] = Unit {0}
NoneEndsTry state (f ∷ fs) = (EndsTry state f → ⊥) × NoneEndsTry state fs

-- A look or a read failed that may have been made for the state; or the state's directory isn't there. Where a look saw another
-- thing there than a directory, that ends a dry run; where it saw nothing, it ends none, and neither does it where a log's family
-- is to stand there.
abbrev pub MayEndTry : Path → Fault → Type 0
MayEndTry state f = MayEnd state f ⊎ (f ≡ fault.NoDir (parent_of state))

-- The last of the faults is why the dry run ended.
pub record SaysWhyTry (state : Path) (own : List Fault) : Type 0 where
  pub before : List Fault
  pub last : Fault
  pub own_are : own ≡ before ++ last ∷ []
  pub ends : EndsTry state last ⊎ MayEndTry state last
