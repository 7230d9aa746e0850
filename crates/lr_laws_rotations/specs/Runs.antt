-- The entries of a run that looks at all its logs first, and rotates them then, be their members' names numbers or dates.
use Rattle.std.specs.Prelude.{◌≡◌, ◌⊎◌, List, [], ◌∷◌, ◌++◌, filter}
use Rattle.lr_rules.specs.declared.clock.Clock.{Clock}
use Rattle.lr_rules.specs.declared.path.Path.{Path}
use Rattle.lr_rules.specs.declared.rules.Rules.{Rules}
use Rattle.lr_host.specs.declared.entry.Entry.{Entry}
use Rattle.lr_host.specs.declared.entry.Entry.TheVariants as entry
use Rattle.lr_host.specs.Lists.{IsIn}
use Rattle.lr_host.specs.Quiet.{AreQuiet}
use Rattle.lr_host.specs.Steps.{is_change}
use Rattle.lr_host.specs.Told.{Each}
use Rattle.lr_laws_family.specs.Weave.{Weave, FirstWoven}
use Rattle.lr_laws_rotations.specs.AllTurns.{IsOfState, IsOfSome, StandsBetween}
use Rattle.lr_laws_rotations.specs.Target.{Target, target_entries}
use Rattle.lr_laws_rotations.specs.Seen.{AreLogsSeen}

-- All logs were looked at while nothing was changed. Of the changes behind that, each is of the rotation of one of the logs, or the
-- state's; seen from each log, they are a first part of its own renames and unlinks, in order, with the changes of others between,
-- and what its rotation does besides. The clock tells the moment of the run.
pub record AllTurnsBy (state : Path) (clock : Clock) (rules : Rules) (ts : List Entry) : Type 0 where
  pub looks : List Entry
  pub acts : List Entry
  pub joined : ts ≡ looks ++ acts
  pub quiet : AreQuiet looks
  pub targets : List Target
  pub seen : AreLogsSeen rules clock looks targets
  pub all : Each (λ e. IsOfSome targets e ⊎ IsOfState state e) (filter is_change acts)
  pub each : (t : Target) → IsIn t targets → FirstWoven (StandsBetween state t targets) (target_entries t) (filter is_change acts)

-- Each log was rotated whole: its renames and unlinks stand in order, with the changes of others between, and what its rotation
-- does besides.
pub record AllTurnedBy (state : Path) (clock : Clock) (rules : Rules) (ts : List Entry) : Type 0 where
  pub turns : AllTurnsBy state clock rules ts
  pub whole : (t : Target) → IsIn t turns.targets → Weave (StandsBetween state t turns.targets) (target_entries t)
      (filter is_change turns.acts)

-- What a run did behind what it read: nothing more, or it started at the clock's moment, looked, and rotated.
pub data MayTurnAllBy (clock : Clock) (ts : List Entry) : Type 0 where
  not_yet : ts ≡ [] → MayTurnAllBy clock ts
  started : (state : Path) (rules : Rules) (tail : List Entry) → ts ≡ entry.Starts state clock.now rules ∷ tail
      → AllTurnsBy state clock rules tail → MayTurnAllBy clock ts

-- The entries of a run, in order, as far as it came.
pub record IsWholeRunBy (clock : Clock) (ts : List Entry) : Type 0 where
  pub front : List Entry
  pub rest : List Entry
  pub joined : ts ≡ front ++ rest
  pub quiet : AreQuiet front
  pub goes_on : MayTurnAllBy clock rest
