-- What the acts of a plan leave.
use Rattle.std.specs.Prelude.{◌≡◌, ℕ, Bool, true, false, List, [], ◌∷◌, ◌++◌, if◌then◌else◌}
use Rattle.std.specs.List.{list_any}
use Rattle.lr_rules.specs.declared.path.Path.{Path}
use Rattle.lr_rules.specs.declared.fault.Fault.{Fault}
use Rattle.lr_host.specs.declared.entry.Entry.{Entry}
use Rattle.lr_host.specs.Told.{Then}
use Rattle.lr_plan.specs.declared.mark.Mark.{Mark}
use Rattle.lr_plan.specs.declared.mark.Mark.TheVariants as mark
use Rattle.lr_plan.specs.declared.plan.Plan.{Plan}
use Rattle.lr_plan.specs.declared.step.SetSteps.{SetSteps}
use Rattle.lr_plan.specs.declared.step.Step.{Step}
use Rattle.lr_plan.specs.Steps.{steps_of_plan, state_steps}
use Rattle.lr_plan.specs.Course.{Part, Course, Unbroken, BrokenOff, Both, Every}

-- the logs that count as rotated
abbrev pub rotated_logs : List Mark → List Path
rotated_logs [] = []
rotated_logs (mark.Rotated log ∷ marks) = log ∷ rotated_logs marks
rotated_logs (_ ∷ marks) = rotated_logs marks

abbrev pub is_rotated : Mark → Bool
is_rotated (mark.Rotated log) = true
is_rotated _ = false

-- Each log's steps, whatever failed in another.
abbrev pub EachDone : List (List Step) → Part
EachDone each = Every Course each

-- these steps, where a log was rotated
abbrev pub if_rotated : List Mark → List Step → List Step
if_rotated marks steps = if list_any is_rotated marks then steps else []

-- Each log's steps, and then so much of the last, where a log was rotated.
pub record LogsThen (Q : List Step → Part) (each : List (List Step)) (last : List Step) (marks : List Mark) (faults : List Fault)
    (ts : List Entry) : Type 0 where
  pub by_each : List Mark
  pub by_last : List Mark
  pub marks_are : marks ≡ by_each ++ by_last
  pub of_each : List Fault
  pub of_last : List Fault
  pub faults_are : faults ≡ of_each ++ of_last
  pub entries : Then (EachDone each by_each of_each) (Q (if_rotated by_each last) by_last of_last) ts

-- Each log's steps, and then the last, where a log was rotated.
abbrev pub LogsDone : List (List Step) → List Step → Part
LogsDone each last = LogsThen Course each last

-- A definition: its first steps, and behind them, where none of them failed, its logs.
pub data SetDone (set : SetSteps) (marks : List Mark) (faults : List Fault) (ts : List Entry) : Type 0 where
  broke_off : BrokenOff (Course set.first) marks faults ts → SetDone set marks faults ts
  went_on : Both (Unbroken (Course set.first)) (LogsDone set.each set.last) marks faults ts → SetDone set marks faults ts

-- All definitions, whatever failed in another.
abbrev pub SetsDone : List SetSteps → Part
SetsDone sets = Every SetDone sets

abbrev pub PlanDone : Plan → Part
PlanDone plan = SetsDone (steps_of_plan plan)

-- And then the state text, which says which logs were rotated, behind the directories that the steps touched; its steps are begun
-- in any case.
pub record ActsDone (plan : Plan) (state : Path) (stale : Bool) (dirs : List Mark → List Path) (text : List Path → List ℕ)
    (marks : List Mark) (faults : List Fault) (ts : List Entry) : Type 0 where
  pub of_plan : List Fault
  pub of_state : List Fault
  pub faults_are : faults ≡ of_plan ++ of_state
  pub entries : Then (PlanDone plan marks of_plan) (Course (state_steps state stale (dirs marks) (text (rotated_logs marks))) []
      of_state) ts
