-- For proofs: the parts of a dry run, with what they add to the faults.
use Rattle.std.specs.Prelude.{◌≡◌, true, ℕ, List, [], ◌∷◌, ◌++◌, Option, None, Result, Ok}
use Rattle.lr_rules.specs.declared.clock.Clock.{Clock}
use Rattle.lr_rules.specs.declared.fault.Fault.{Fault}
use Rattle.lr_rules.specs.declared.path.Path.{Path}
use Rattle.lr_rules.specs.declared.rule.Rule.{Rule}
use Rattle.lr_rules.specs.declared.rules.Rules.{Rules}
use Rattle.lr_host.specs.declared.entry.Entry.{Entry}
use Rattle.lr_host.specs.Told.{Then}
use Rattle.lr_state.specs.Table.{StateEntry as Row}
use Rattle.lr_plan.specs.Asked.{Asked}
use Rattle.lr_plan.specs.declared.plan.Plan.{Plan}
use Rattle.lr_looks.specs.Found.{paths_of}
use Rattle.lr_state.specs.declared.remembered.Remembered.{Remembered}
use Rattle.lr_state.specs.Known.{TextSaysOnly}
use Rattle.lr_run.specs.declared.answer.Ran.{Ran}
use Rattle.lr_run.specs.declared.answer.RunStop.{RunStop}
use Rattle.lr_run.specs.Halt.{LacksState}
use Rattle.lr_run.specs.Ran.{RunEnds}
use Rattle.lr_run.specs.InternalDry.{PlanFollows}
use Rattle.lr_run.specs.Saw.{Saw, ShowsStateText, ShowsSets}
use Rattle.lr_run.specs.Work.{Work}

-- The logs were looked at, and by this table it was planned; the faults of both were added. The text of the state is left open in
-- what was seen, and so is its part file.
pub record PlansOn (state : Path) (rules : List Rule) (table : List Row) (clock : Clock) (asked : Asked) (plan : Option Plan)
    (faults all_faults : List Fault) (ts : List Entry) : Type 0 where
  pub saw : Saw
  pub table_is : saw.table ≡ table
  pub sets : ShowsSets state rules saw ts
  pub own : List Fault
  pub faults_are : all_faults ≡ faults ++ (saw.faults ++ own)
  pub follows : PlanFollows rules saw.sets (paths_of saw.kept) saw.table clock asked plan own

-- Behind the look at the state's directory: nothing is known of the state, whose fault was added, and there is no plan; or it was
-- read, and planned by its table.
pub data PlansByOn (state : Path) (rules : List Rule) (clock : Clock) (asked : Asked) (plan : Option Plan)
    (faults all_faults : List Fault) (ts : List Entry) : Type 0 where
  not_known : (f : Fault) → plan ≡ None → all_faults ≡ faults ++ f ∷ [] → LacksState state f ts
      → PlansByOn state rules clock asked plan faults all_faults ts
  by_text : (text : List ℕ) (remembered : Remembered) → TextSaysOnly text (Ok remembered.table)
      → Then (ShowsStateText state text remembered.stale) (PlansOn state rules remembered.table clock asked plan faults all_faults)
      ts
      → PlansByOn state rules clock asked plan faults all_faults ts

-- The whole dry run was made, and came to something, or to no plan.
abbrev pub TriesOn : Path → Rules → Clock → Asked → List Fault → Result Ran RunStop → List Entry → Type 0
TriesOn state rules clock asked earlier result ts = (work : Option Work)
    × RunEnds true state rules clock asked earlier result work ts
