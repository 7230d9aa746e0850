-- What a run leaves alone.
use Rattle.std.specs.Prelude.{◌≡◌, ◌≢◌, ◌⊎◌, ℤ, List, Some, filter}
use Rattle.lr_rules.specs.declared.path.Path.{Path}
use Rattle.lr_rules.specs.Names.{IsOwnName}
use Rattle.lr_rules.specs.StatePath.{state_part}
use Rattle.lr_host.specs.declared.entry.Entry.{Entry}
use Rattle.lr_host.specs.Lists.{IsIn}
use Rattle.lr_host.specs.Safe.{IsSafe}
use Rattle.lr_host.specs.Sets.{LogSet}
use Rattle.lr_host.specs.Steady.{IsSteady}
use Rattle.lr_host.specs.Steps.{is_change}
use Rattle.lr_host.specs.Told.{Each}
use Rattle.lr_host.specs.World.{Past, world, names}
use Rattle.lr_looks.specs.Found.{FoundLog}
use Rattle.lr_laws_rotations.specs.AllTurns.{IsItsDir, IsOfSome, IsOfState}
use Rattle.lr_laws_rotations.specs.Target.{Target}
use Rattle.lr_laws_plan.specs.Left.{IsLeftAlone}

-- The path is none of the state's, no name of these logs, and no directory that their rotations make.
pub record IsOfTheRest (state : Path) (targets : List Target) (x : Path) : Type 0 where
  pub no_state : x ≢ state
  pub no_part : x ≢ state_part state
  pub no_name : (t : Target) → IsIn t targets → IsOwnName t.log t.naming x → ⊥
  pub no_dir : (t : Target) → IsIn t targets → IsItsDir t x → ⊥

-- none of these has the log
abbrev pub NoTargetHas : List Target → Path → Type 0
NoTargetHas targets log = (t : Target) → IsIn t targets → t.log ≢ log

-- A run that rotates these logs, of which it kept those, leaves alone each path elsewhere, and each name of another log that it
-- kept.
pub record LeavesRest (state : Path) (kept : List FoundLog) (targets : List Target) (before after : Past) : Type 0 where
  pub paths : (x : Path) → IsOfTheRest state targets x → IsLeftAlone before after x
  pub others : (f : FoundLog) → IsIn f kept → NoTargetHas targets f.log.path → (x : Path) → IsOwnName f.log.path f.log.naming x
      → IsLeftAlone before after x

-- Each safe and steady set of another log names what it named.
abbrev pub LeavesSets : List Target → Past → Past → Type 0
LeavesSets targets before after = (s : LogSet) → NoTargetHas targets s.log → IsSafe s before → IsSteady s after
    → (y : Path) (k : ℤ) → s.key y ≡ Some k → names (world after) y ≡ names (world before) y

-- Each change among these entries is one of the rotation of one of these logs, or of the state's writing.
abbrev pub ChangesOnly : Path → List Target → List Entry → Type 0
ChangesOnly state targets ts = Each (λ e. IsOfSome targets e ⊎ IsOfState state e) (filter is_change ts)
