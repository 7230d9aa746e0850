-- The paths of a plan, and the text of the state that is measured by them.
use Rattle.std.specs.Prelude.{ℕ, List, [], map}
use Rattle.std.specs.List.{flat_map}
use Rattle.lr_rules.specs.declared.civil.Civil.{Civil}
use Rattle.lr_rules.specs.declared.path.Path.{Path}
use Rattle.lr_state.specs.Table.{StateEntry as Row}
use Rattle.lr_plan.specs.declared.plan.LogPlan.{LogPlan}
use Rattle.lr_plan.specs.declared.plan.SetPlan.{SetPlan}
use Rattle.lr_plan.specs.declared.plan.Plan.{Plan}
use Rattle.lr_state.specs.After.{after}
use Rattle.lr_state.specs.Measured.{measured_text}
use Rattle.lr_writing.specs.Synced.{all_to_make_of}

-- the logs that it rotates
abbrev pub logs_rotated : List LogPlan → List Path
logs_rotated logs = map (λ log. log.log) logs

abbrev pub all_logs_of : List SetPlan → List Path
all_logs_of sets = flat_map (λ set. logs_rotated set.logs) sets

abbrev pub logs_in : Plan → List Path
logs_in plan = all_logs_of plan.sets

-- the text of the state that is measured before the first act of the plan, by the table and the logs that are kept
abbrev pub measured_of : Plan → List Row → List Path → Civil → List ℕ
measured_of plan table kept now = measured_text (logs_in plan) now (after table [] kept now)

-- the directories that it makes
abbrev pub dirs_in : Plan → List Path
dirs_in plan = all_to_make_of plan.sets
