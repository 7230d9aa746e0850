-- What entries show of a run's looks at its state.
use Rattle.std.specs.Prelude.{◌⊎◌, ℕ, List, [], ◌∷◌, Option, None}
use Rattle.lr_rules.specs.declared.path.Path.{Path}
use Rattle.lr_rules.specs.StatePath.{state_part}
use Rattle.lr_host.specs.declared.thing.Seen.{Seen}
use Rattle.lr_host.specs.declared.entry.Entry.{Entry}
use Rattle.lr_host.specs.declared.entry.Entry.TheVariants as entry
use Rattle.lr_host.specs.Lists.{IsIn}

-- those behind the start of the run
abbrev pub behind_start : List Entry → List Entry
behind_start [] = []
behind_start (entry.Starts state now rules ∷ ts) = ts
behind_start (_ ∷ ts) = behind_start ts

-- a look at the path answered, whatever it saw
abbrev pub WasLookedAt : Path → List Entry → Type 0
WasLookedAt path ts = (seen : Option Seen) × IsIn (entry.Look path seen) ts

-- a read of the path found its end
abbrev pub WasReadToEnd : Path → List Entry → Type 0
WasReadToEnd path ts = (place : ℕ) × IsIn (entry.Reads path place []) ts

-- The state was seen: a look at the file that a new state is first written to answered, and nothing stood at the state's path, or
-- what stood there was read to its end.
pub record SawState (state : Path) (ts : List Entry) : Type 0 where
  pub part : WasLookedAt (state_part state) ts
  pub text : IsIn (entry.Look state None) ts ⊎ WasReadToEnd state ts
