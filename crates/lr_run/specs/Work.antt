-- What a run came to, as a value: what it saw, its plan, and what the acts came to; and how its entries show it.
use Rattle.std.specs.Prelude.{◌≡◌, ◌≤◌, Bool, true, false, List, [], ◌∷◌, ◌++◌, length}
use Rattle.lr_rules.specs.declared.clock.Clock.{Clock}
use Rattle.lr_rules.specs.declared.fault.Fault.{Fault}
use Rattle.lr_rules.specs.declared.path.Path.{Path}
use Rattle.lr_rules.specs.declared.rule.Rule.{Rule}
use Rattle.lr_rules.specs.declared.rules.Rules.{Rules}
use Rattle.lr_host.specs.declared.entry.Entry.{Entry}
use Rattle.lr_host.specs.declared.entry.Entry.TheVariants.{Starts, Ends}
use Rattle.lr_host.specs.Told.{Then}
use Rattle.lr_plan.specs.Asked.{Asked}
use Rattle.lr_plan.specs.Course.{Course, Every}
use Rattle.lr_plan.specs.Cut.{SetsCut}
use Rattle.lr_plan.specs.declared.mark.Mark.{Mark}
use Rattle.lr_plan.specs.declared.plan.Plan.{Plan}
use Rattle.lr_plan.specs.declared.step.Step.{Step}
use Rattle.lr_plan.specs.Done.{SetDone, rotated_logs}
use Rattle.lr_plan.specs.Steps.{steps_of_plan, state_steps}
use Rattle.lr_acts.specs.Making.{HasProgram, all_of_sets}
use Rattle.lr_writing.specs.Synced.{AreSynced}
use Rattle.lr_run.specs.Saw.{Saw, ShowsSaw, plan_by, text_by, measured_by}

-- ---- the value

-- What the acts came to: the marks of the steps that were made, the directories that are synced behind them, the faults of the
-- logs' steps, and those of the state's writing.
pub record Acts : Type 0 where
  pub marks : List Mark
  pub dirs : List Path
  pub of_logs : List Fault
  pub of_state : List Fault

abbrev pub act_faults : Acts → List Fault
act_faults acts = acts.of_logs ++ acts.of_state

-- there were none
abbrev pub no_acts : Acts
no_acts = record { marks = []; dirs = []; of_logs = []; of_state = [] }

-- What a run came to: what it saw, its plan, what the acts came to, and its entries: those of the look at the state's directory, of
-- the reads of the state, of the looks, and of the acts.
pub record Work : Type 0 where
  pub saw : Saw
  pub plan : Plan
  pub acts : Acts
  pub dir : List Entry
  pub reads : List Entry
  pub looks : List Entry
  pub did : List Entry

-- all entries of a run by its parts, in order: a dry run takes no lock, and does nothing
abbrev pub entries_of : Bool → Path → Clock → Rules → (dir reads looks did : List Entry) → List Entry
entries_of true state clock rules dir reads looks did = dir ++ (reads ++ looks)
entries_of false state clock rules dir reads looks did = dir
    ++ (Starts state clock.now rules ∷ (reads ++ (looks ++ (did ++ Ends ∷ []))))

abbrev pub run_entries : Bool → Path → Clock → Rules → Work → List Entry
run_entries debug state clock rules w = entries_of debug state clock rules w.dir w.reads w.looks w.did

-- those before it reads its state and looks
abbrev pub first_entries : Bool → Path → Clock → Rules → Work → List Entry
first_entries true state clock rules w = w.dir
first_entries false state clock rules w = w.dir ++ Starts state clock.now rules ∷ []

-- the steps of its writing of the state, which tells of the logs that were rotated
abbrev pub state_steps_of : Path → Clock → Work → List Step
state_steps_of state clock w = state_steps state w.saw.stale w.acts.dirs (text_by w.saw clock (rotated_logs w.acts.marks))

-- all its steps: of its plan, and of that
abbrev pub steps_in : Path → Clock → Work → List Step
steps_in state clock w = all_of_sets (steps_of_plan w.plan) ++ state_steps_of state clock w

-- ---- how entries show it

-- The plan is the one that follows by these rules and this clock, and the state's text is small enough, however its rotations end.
pub record IsPlanOf (rules : List Rule) (saw : Saw) (clock : Clock) (asked : Asked) (plan : Plan) : Type 0 where
  pub is : plan ≡ plan_by rules saw clock asked
  pub small : length (measured_by saw plan clock) ≤ 67_108_864

-- What was seen is as the entries show, and the plan is the one that follows.
pub record ShowsWork (debug : Bool) (state : Path) (rules : List Rule) (clock : Clock) (asked : Asked) (w : Work) : Type 0 where
  pub seen : ShowsSaw debug state rules w.saw w.dir w.reads w.looks
  pub plan : IsPlanOf rules w.saw clock asked w.plan

-- The plan was carried out, whatever failed, and then the state was written. Before the rename that gives the state its new text,
-- the directories are synced in which the plan changes names, without those that were to be made and weren't.
pub record CarriesOut (state : Path) (clock : Clock) (w : Work) : Type 0 where
  pub dirs : AreSynced w.plan.sets w.acts.marks w.acts.dirs
  pub entries : Then (Every SetDone (steps_of_plan w.plan) w.acts.marks w.acts.of_logs)
      (Course (state_steps_of state clock w) [] w.acts.of_state) w.did

-- Of the acts of the plan, among which there is a program, a first part was done, up to a step that would run one, for which there
-- was no memory. The state was not written.
pub record BreaksOff (w : Work) : Type 0 where
  pub program : HasProgram (all_of_sets (steps_of_plan w.plan))
  pub part : SetsCut (steps_of_plan w.plan) w.acts.marks w.acts.of_logs w.did
  pub no_dirs : w.acts.dirs ≡ []
  pub no_state : w.acts.of_state ≡ []

-- Nothing was done.
pub record DidNothing (w : Work) : Type 0 where
  pub acts : w.acts ≡ no_acts
  pub did : w.did ≡ []
