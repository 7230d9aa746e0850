-- What a call leaves that looks at the logs under the lock.
use Rattle.std.specs.Prelude.{◌≡◌, List, [], ◌∷◌, ◌++◌}
use Rattle.lr_rules.specs.declared.path.Path.{Path}
use Rattle.lr_rules.specs.declared.clock.Clock.{Clock}
use Rattle.lr_rules.specs.declared.rules.Rules.{Rules}
use Rattle.lr_rules.specs.Path.{parent_of}
use Rattle.lr_host.specs.declared.entry.Entry.{Entry}
use Rattle.lr_host.specs.declared.entry.Entry.TheVariants.{Starts, Ends}
use Rattle.lr_host.specs.Looks.{Sees, IsDir}

-- The state's directory was seen, the run began and ended, and of the entries between the two this holds.
pub record Inside (state : Path) (clock : Clock) (rules : Rules) (P : List Entry → Type 0) (ts : List Entry) : Type 0 where
  pub before : List Entry
  pub between : List Entry
  pub entries : ts ≡ before ++ (Starts state clock.now rules ∷ (between ++ Ends ∷ []))
  pub directory : Sees (parent_of state) IsDir before
  pub within : P between
