-- For proofs: what a run that acts shows, by cases: what it saw, and the acts of the plan that follows.
use Rattle.std.specs.Prelude.{◌≡◌, ◌<◌, ◌≤◌, ℕ, List, [], ◌∷◌, ◌++◌, length, Option, Some, None, Ok, Err}
use Rattle.lr_rules.specs.declared.path.Path.{Path}
use Rattle.lr_rules.specs.declared.clock.Clock.{Clock}
use Rattle.lr_rules.specs.declared.rule.Rule.{Rule}
use Rattle.lr_rules.specs.declared.rules.Rules.{Rules}
use Rattle.lr_rules.specs.declared.fault.CallKind.TheVariants as call
use Rattle.lr_rules.specs.declared.fault.Fault.{Fault}
use Rattle.lr_rules.specs.declared.fault.Fault.TheVariants as fault
use Rattle.lr_rules.specs.declared.fault.StateKind.TheVariants as kind
use Rattle.lr_rules.specs.Path.{parent_of}
use Rattle.lr_host.specs.declared.entry.Entry.{Entry}
use Rattle.lr_host.specs.declared.entry.Entry.TheVariants.{Starts}
use Rattle.lr_host.specs.Told.{Then, Maybe}
use Rattle.lr_host.specs.Looks.{Sees, IsDir, IsNotDir}
use Rattle.lr_state.specs.Written.{table_text}
use Rattle.lr_plan.specs.Asked.{Asked}
use Rattle.lr_plan.specs.declared.looks.SetLooks.{SetLooks}
use Rattle.lr_plan.specs.declared.mark.Mark.{Mark}
use Rattle.lr_plan.specs.declared.plan.Plan.{Plan}
use Rattle.lr_acts.specs.Making.{HasProgram, all_of_sets}
use Rattle.lr_plan.specs.Done.{ActsDone}
use Rattle.lr_plan.specs.Cut.{SetsCut}
use Rattle.lr_plan.specs.Planned.{plan_of}
use Rattle.lr_plan.specs.Steps.{steps_of_plan}
use Rattle.lr_looks.specs.Found.{paths_of}
use Rattle.lr_looks.specs.Inside.{Inside}
use Rattle.lr_looks.specs.Shown.{ShowsLooks}
use Rattle.lr_state.specs.declared.remembered.Remembered.{Remembered}
use Rattle.lr_state.specs.Known.{IsKnown}
use Rattle.lr_state.specs.Sights.{StateSights, ShowsState}
use Rattle.lr_state.specs.After.{after}
use Rattle.lr_looks.specs.Reserved.{reserved_by}
use Rattle.lr_writing.specs.Synced.{AreSynced}
use Rattle.lr_run.specs.Halt.{SomeSeen}
use Rattle.lr_run.specs.Rotated.{rotated_targets}
use Rattle.lr_laws_rotations.specs.Target.{Target}
use Rattle.lr_run.specs.Paths.{measured_of}

-- ---- what was seen

-- The text of the state was read, and says a table; then the logs were looked at. What was done behind that is left open.
pub record Looked (state : Path) (rules : List Rule) (ts : List Entry) : Type 0 where
  pub sights : StateSights
  pub remembered : Remembered
  pub known : IsKnown state sights (Ok remembered)
  pub sets : List SetLooks
  pub of_looks : List Fault
  pub reads : List Entry
  pub looks : List Entry
  pub acts : List Entry
  pub joined : ts ≡ reads ++ (looks ++ acts)
  pub read : ShowsState state 65_536 sights reads
  pub shown : ShowsLooks (reserved_by state) rules sets of_looks looks

-- the plan that follows from it
abbrev pub plan_in : (state : Path) (rules : List Rule) (ts : List Entry) → Looked state rules ts → Clock → Asked → Plan
plan_in state rules ts l clock asked = plan_of rules l.sets l.remembered.table clock asked

-- the logs that are kept: the state tells of each of them
abbrev pub kept_in : (state : Path) (rules : List Rule) (ts : List Entry) → Looked state rules ts → List Path
kept_in state rules ts l = paths_of l.shown.kept

-- the text that is measured
abbrev pub measured_in : (state : Path) (rules : List Rule) (ts : List Entry) → Looked state rules ts → Clock → Asked → List ℕ
measured_in state rules ts l clock asked = measured_of (plan_in state rules ts l clock asked) l.remembered.table
    (kept_in state rules ts l) clock.now.civil

-- the text that is written, by the logs that were rotated
abbrev pub state_text : (state : Path) (rules : List Rule) (ts : List Entry) → Looked state rules ts → Clock → List Path → List ℕ
state_text state rules ts l clock rotated = table_text (after l.remembered.table rotated (kept_in state rules ts l) clock.now.civil)

-- the logs that are rotated then
abbrev pub rotated_in : (state : Path) (rules : List Rule) (ts : List Entry) → Looked state rules ts → Clock → Asked → List Target
rotated_in state rules ts l clock asked = rotated_targets rules l.remembered.table clock asked l.sets

-- ---- what was done

-- The acts of the plan, and then the writing of the state. Before the rename that gives the state its new text, the directories are
-- synced in which the plan changes names, without those that were to be made and weren't. The faults are those of the looks, of the
-- plan and of the acts, in this order.
pub record Acted (state : Path) (rules : List Rule) (clock : Clock) (asked : Asked) (ts : List Entry) (l : Looked state rules ts)
    (faults : List Fault) : Type 0 where
  pub small : length (measured_in state rules ts l clock asked) ≤ 67_108_864
  pub dirs : List Path
  pub marks : List Mark
  pub dirs_are : AreSynced (plan_in state rules ts l clock asked).sets marks dirs
  pub of_acts : List Fault
  pub faults_are : faults ≡ l.of_looks ++ ((plan_in state rules ts l clock asked).faults ++ of_acts)
  pub entries : ActsDone (plan_in state rules ts l clock asked) state l.remembered.stale (λ made. dirs)
      (state_text state rules ts l clock) marks of_acts l.acts

-- The run came to its plan, and carried it out.
pub record Worked (state : Path) (rules : List Rule) (clock : Clock) (asked : Asked) (faults : List Fault)
    (ts : List Entry) : Type 0 where
  pub looked : Looked state rules ts
  pub acted : Acted state rules clock asked ts looked faults

-- Between its begin and its end a run has these faults, and comes to this plan: nothing is known of the state, with the one fault
-- of that, and there is no plan; or its text could become too big, and then nothing is done behind the looks, and there is none; or
-- it worked, and the plan is the one that follows from what it saw.
pub data Works (state : Path) (rules : List Rule) (clock : Clock) (asked : Asked) (plan : Option Plan) (faults : List Fault)
    (ts : List Entry) : Type 0 where
  not_known : (sights : StateSights) (f : Fault) → IsKnown state sights (Err f) → plan ≡ None → faults ≡ f ∷ []
      → ShowsState state 65_536 sights ts → Works state rules clock asked plan faults ts
  too_big : (l : Looked state rules ts) → 67_108_864 < length (measured_in state rules ts l clock asked) → plan ≡ None
      → faults ≡ l.of_looks ++ fault.State 0 kind.TooBig ∷ [] → l.acts ≡ [] → Works state rules clock asked plan faults ts
  worked : (w : Worked state rules clock asked faults ts) → plan ≡ Some (plan_in state rules ts w.looked clock asked)
      → Works state rules clock asked plan faults ts

-- A run with these faults of its own, that came to this plan: the state's directory isn't there, or the look at it failed; the
-- begin failed, with its entry or without; or it began, and ended.
pub data Runs (state : Path) (asked : Asked) (clock : Clock) (rules : Rules) (plan : Option Plan) (faults : List Fault)
    (ts : List Entry) : Type 0 where
  no_directory : plan ≡ None → faults ≡ fault.NoDir (parent_of state) ∷ [] → Sees (parent_of state) IsNotDir ts
      → Runs state asked clock rules plan faults ts
  not_seen : plan ≡ None → faults ≡ fault.Call call.Look (parent_of state) ∷ [] → ts ≡ []
      → Runs state asked clock rules plan faults ts
  not_begun : plan ≡ None → faults ≡ fault.Call call.Begin state ∷ []
      → Then (Sees (parent_of state) IsDir) (Maybe (Starts state clock.now rules)) ts → Runs state asked clock rules plan faults ts
  began : Inside state clock rules (Works state rules.sets clock asked plan faults) ts → Runs state asked clock rules plan faults ts

-- ---- without memory

-- The state was read and the logs were looked at, and of the acts of the plan, among which there is a program, a first part was
-- done, up to a step that would run one. For that there was no memory, and the state was not written.
pub record BrokeOff (state : Path) (rules : List Rule) (clock : Clock) (asked : Asked) (ts : List Entry) : Type 0 where
  pub looked : Looked state rules ts
  pub small : length (measured_in state rules ts looked clock asked) ≤ 67_108_864
  pub program : HasProgram (all_of_sets (steps_of_plan (plan_in state rules ts looked clock asked)))
  pub marks : List Mark
  pub of_acts : List Fault
  pub part : SetsCut (steps_of_plan (plan_in state rules ts looked clock asked)) marks of_acts looked.acts

-- There was no memory: before the first call; behind a first part of what is seen, where the run ended with no change; or for a
-- program, amid the acts.
pub data LacksMemory (state : Path) (asked : Asked) (clock : Clock) (rules : Rules) (ts : List Entry) : Type 0 where
  at_first : ts ≡ [] → LacksMemory state asked clock rules ts
  in_looks : Inside state clock rules (SomeSeen state rules.sets) ts → LacksMemory state asked clock rules ts
  in_acts : Inside state clock rules (BrokeOff state rules.sets clock asked) ts → LacksMemory state asked clock rules ts
