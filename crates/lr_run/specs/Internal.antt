-- For proofs: the parts of a run, with what they add to the faults.
use Rattle.std.specs.Prelude.{◌≡◌, ◌≤◌, ◌<◌, ◌+◌, ℕ, Bool, true, false, List, [], ◌∷◌, ◌++◌, length, map, Option, Some, None, Ok}
use Rattle.std.specs.Prelude.{vec_len}
use Rattle.std.specs.Vec.{vec_capacity}
use Rattle.lr_rules.specs.declared.path.Path.{Path}
use Rattle.lr_rules.specs.declared.civil.Civil.{Civil}
use Rattle.lr_rules.specs.declared.civil.Moment.{Moment}
use Rattle.lr_rules.specs.declared.clock.Clock.{Clock}
use Rattle.lr_rules.specs.declared.rule.Rule.{Rule}
use Rattle.lr_rules.specs.declared.rules.Rules.{Rules}
use Rattle.lr_rules.specs.Path.{parent_of}
use Rattle.lr_rules.specs.declared.fault.CallKind.TheVariants as call
use Rattle.lr_rules.specs.declared.fault.Fault.{Fault}
use Rattle.lr_rules.specs.declared.fault.Fault.TheVariants as fault
use Rattle.lr_rules.specs.declared.fault.StateKind.TheVariants as kind
use Rattle.lr_host.specs.declared.entry.Entry.{Entry}
use Rattle.lr_host.specs.declared.entry.Entry.TheVariants as entry
use Rattle.lr_host.specs.declared.entry.Entry.TheVariants.{Starts, Ends}
use Rattle.lr_host.specs.declared.journal.Journal.{Journal}
use Rattle.lr_host.specs.Opening.{IsJournal}
use Rattle.lr_host.specs.Told.{Left, Then, Are, Can, Counts, WhereTold, Maybe}
use Rattle.lr_host.specs.Looks.{Sees, IsDir}
use Rattle.lr_state.specs.Table.{StateEntry as Row}
use Rattle.lr_state.specs.Written.{table_text}
use Rattle.lr_plan.specs.Asked.{Asked}
use Rattle.lr_plan.specs.declared.looks.Looks.{Looks}
use Rattle.lr_plan.specs.declared.mark.Mark.{Mark}
use Rattle.lr_plan.specs.declared.plan.SetPlan.{SetPlan}
use Rattle.lr_plan.specs.declared.plan.Plan.{Plan}
use Rattle.lr_host.specs.Counted.{AreCounted}
use Rattle.lr_plan.specs.Course.{Course}
use Rattle.lr_plan.specs.declared.step.SetSteps.{SetSteps}
use Rattle.lr_plan.specs.declared.step.Step.{Step}
use Rattle.lr_plan.specs.Done.{SetsDone, rotated_logs}
use Rattle.lr_plan.specs.Planned.{plan_of}
use Rattle.lr_plan.specs.Asking.{CanMake}
use Rattle.lr_plan.specs.Cut.{SetsCut}
use Rattle.lr_plan.specs.Steps.{steps_of_plan, state_steps}
use Rattle.lr_acts.specs.declared.progress.Progress.{Progress}
use Rattle.lr_acts.specs.Adding.{HasRoom}
use Rattle.lr_acts.specs.Making.{all_of_sets}
use Rattle.lr_acts.specs.Named.{KeepsNames}
use Rattle.lr_acts.specs.Taken.{TakenOnly}
use Rattle.lr_looks.specs.Found.{paths_of}
use Rattle.lr_looks.specs.Shown.{ShowsLooks, LooksAtAll}
use Rattle.lr_state.specs.declared.remembered.Remembered.{Remembered}
use Rattle.lr_state.specs.Known.{IsKnown, ReadsState, TextSaysOnly}
use Rattle.lr_state.specs.Sights.{StateSights, ShowsState}
use Rattle.lr_state.specs.After.{after, stamped}
use Rattle.lr_writing.specs.Target.{StateTarget}
use Rattle.lr_looks.specs.Reserved.{reserved_by}
use Rattle.lr_writing.specs.Before.{IsBy}
use Rattle.lr_writing.specs.Synced.{AreSynced}
use Rattle.lr_run.specs.declared.answer.RunStop.{RunStop}
use Rattle.lr_run.specs.declared.answer.RunStop.TheVariants as stop
use Rattle.lr_run.specs.declared.ready.Ready.{Ready}
use Rattle.lr_run.specs.Halt.{SomeSeen, LacksState}
use Rattle.lr_run.specs.InternalRuns.{BrokeOff, LacksMemory}
use Rattle.lr_run.specs.Paths.{measured_of}
use Rattle.lr_run.specs.Saw.{Saw, ShowsStateText, ShowsSets, plan_by, measured_by}
use Rattle.lr_run.specs.Work.{Acts, act_faults, Work, IsPlanOf, CarriesOut}
use Rattle.lr_run.specs.Ran.{TellsNames, TellsNamesOf}

-- ---- what is ready

-- The steps of the plan, with room for what they come to, and what the writing needs and the syncs before it; the faults of the
-- plan were added.
pub record IsRunReady (state : Path) (stale : Bool) (plan : Plan) (table : List Row) (ready : Ready)
    (before now : Progress) : Type 0 where
  pub steps : ready.steps ≡ steps_of_plan plan
  pub writes : ready.writing ≡ record { state = state; stale = stale }
  pub directories : IsBy plan.sets ready.directories
  pub table_is : ready.table ≡ table
  pub faults : now.faults.items ≡ before.faults.items ++ plan.faults
  pub room : HasRoom (length (all_of_sets ready.steps)) now
  pub two_more : vec_len now.faults + length (all_of_sets ready.steps) + 2 ≤ vec_capacity now.faults

-- The text is small enough, however the rotations end; and all is ready.
pub record ReadyFor (state : Path) (now : Moment) (remembered : Remembered) (kept : List Path) (plan : Plan) (ready : Ready)
    (before later : Progress) : Type 0 where
  pub small : length (measured_of plan remembered.table kept now.civil) ≤ 67_108_864
  pub is : IsRunReady state remembered.stale plan (after remembered.table [] kept now.civil) ready before later

abbrev pub MayBeReady : Path → Moment → Remembered → List Path → Plan → Option Ready → Progress → Progress → Type 0
MayBeReady state now remembered kept plan (Some ready) before later = ReadyFor state now remembered kept plan ready before later
MayBeReady state now remembered kept plan None before later =
    (67_108_864 < length (measured_of plan remembered.table kept now.civil)) × (later ≡ before)

-- ---- what was done

-- these are the directories that are synced behind acts that left these marks
abbrev pub AreBehind : Ready → List Mark → List Path → Type 0
AreBehind ready marks dirs = (sets : List SetPlan) → IsBy sets ready.directories → AreSynced sets marks dirs

-- Wherever the acts end, the state can be written behind them.
abbrev pub CanWrite : Ready → Option Journal → Type 0
CanWrite ready told = (later : Option Journal) (marks : List Mark) (faults : List Fault) (dirs : List Path) (text : List ℕ)
    → AreBehind ready marks dirs → Left (SetsDone ready.steps marks faults) told later
    → CanMake later (state_steps ready.writing.state ready.writing.stale dirs text)

-- the steps of this writing of the state, behind these acts: the logs that they rotated have this moment in the table
abbrev pub writing_steps : StateTarget → List Row → Civil → Acts → List Step
writing_steps writing table now acts = state_steps writing.state writing.stale acts.dirs
    (table_text (map (stamped (rotated_logs acts.marks) now) table))

-- The acts, and then the state, with this moment for the logs that were rotated; the faults of both were added.
pub record ActsAndWrites (ready : Ready) (now : Civil) (before later : Progress) (told then : Option Journal)
    (counted counts : Counts) : Type 0 where
  pub acts : Acts
  pub dirs_are : AreBehind ready acts.marks acts.dirs
  pub faults_are : later.faults.items ≡ before.faults.items ++ act_faults acts
  pub entries : Left (Then (SetsDone ready.steps acts.marks acts.of_logs)
      (Course (writing_steps ready.writing ready.table now acts) [] acts.of_state)) told then
  pub are_counted : AreCounted (act_faults acts) counted counts
  pub taken : TakenOnly (all_of_sets ready.steps ++ writing_steps ready.writing ready.table now acts) (act_faults acts) told then
  -- which names the acts left, and what came behind them
  pub middle : Option Journal
  pub names : KeepsNames (all_of_sets ready.steps) acts.marks told middle
  pub wrote : Left (Course (writing_steps ready.writing ready.table now acts) [] acts.of_state) middle then

-- ---- the parts of the work

-- The state was read, and this is known by it, behind a moment of a disk at which its directory stood.
pub record KnownBefore (state : Path) (remembered : Remembered) (told : Option Journal) : Type 0 where
  pub before : Option Journal
  pub disk : WhereTold before IsJournal
  pub there : Can before (entry.List (parent_of state) [])
  pub read : Left (ReadsState state 65_536 (Ok (Ok remembered))) before told

-- So it was, and then the logs were looked at.
pub record SeenBefore (state : Path) (rules : Rules) (looks : Looks) (remembered : Remembered)
    (told : Option Journal) : Type 0 where
  pub middle : Option Journal
  pub known : KnownBefore state remembered middle
  pub faults : List Fault
  pub all_faults : List Fault
  pub looked : Left (LooksAtAll (reserved_by state) rules.sets looks faults all_faults) middle told

-- ---- by values

-- the plan that follows from these looks, and from what is known of the state
abbrev pub plan_for : Rules → Looks → Remembered → Clock → Asked → Plan
plan_for rules looks remembered clock asked = plan_of rules.sets looks.sets remembered.table clock asked

-- the text of the state that is measured before it is carried out
abbrev pub measured_for : Rules → Looks → Remembered → Clock → Asked → List ℕ
measured_for rules looks remembered clock asked = measured_of (plan_for rules looks remembered clock asked) remembered.table
    looks.kept clock.now.civil

-- the steps of the writing of the state behind these acts
abbrev pub steps_of_writing : Path → Looks → Remembered → Clock → Acts → List Step
steps_of_writing state looks remembered clock acts = state_steps state remembered.stale acts.dirs
    (table_text (after remembered.table (rotated_logs acts.marks) looks.kept clock.now.civil))

-- What follows from the looks: the text of the state could become too big by the plan, and nothing was done; or the plan was
-- carried out by these acts, and then the state was written. The faults were added.
pub data ActsBy (state : Path) (rules : Rules) (looks : Looks) (remembered : Remembered) (clock : Clock) (asked : Asked)
    (plan : Option Plan) (faults all_faults : List Fault) (acts : Option Acts) (ts : List Entry) : Type 0 where
  outgrew : plan ≡ None → acts ≡ None → all_faults ≡ faults ++ fault.State 0 kind.TooBig ∷ []
      → 67_108_864 < length (measured_for rules looks remembered clock asked) → ts ≡ []
      → ActsBy state rules looks remembered clock asked plan faults all_faults acts ts
  acted : (a : Acts) → plan ≡ Some (plan_for rules looks remembered clock asked) → acts ≡ Some a
      → all_faults ≡ faults ++ ((plan_for rules looks remembered clock asked).faults ++ act_faults a)
      → length (measured_for rules looks remembered clock asked) ≤ 67_108_864
      → AreSynced (plan_for rules looks remembered clock asked).sets a.marks a.dirs
      → Then (SetsDone (steps_of_plan (plan_for rules looks remembered clock asked)) a.marks a.of_logs)
      (Course (steps_of_writing state looks remembered clock a) [] a.of_state) ts
      → ActsBy state rules looks remembered clock asked plan faults all_faults acts ts

-- So it was, with these acts, where there were some; and of them the journal tells the names besides.
pub record Carries (state : Path) (rules : Rules) (looks : Looks) (remembered : Remembered) (clock : Clock) (asked : Asked)
    (plan : Option Plan) (faults all_faults : List Fault) (told later : Option Journal) : Type 0 where
  pub acts : Option Acts
  pub shows : Left (ActsBy state rules looks remembered clock asked plan faults all_faults acts) told later
  pub names : (a : Acts) → acts ≡ Some a
      → TellsNames a.marks (all_of_sets (steps_of_plan (plan_for rules looks remembered clock asked))
      ++ steps_of_writing state looks remembered clock a) ((plan_for rules looks remembered clock asked).faults
      ++ act_faults a) told
      later

-- What a part of a run left, by what it came to, where it came to a plan; and of that the journal tells the names besides.
pub record CameTo (P : Option Work → List Entry → Type 0) (state : Path) (clock : Clock)
    (told later : Option Journal) : Type 0 where
  pub work : Option Work
  pub shows : Left (P work) told later
  pub names : (w : Work) → work ≡ Some w → TellsNamesOf state clock w told later

-- Behind reads so, it came to this: its logs were looked at, and its plan was carried out. The faults were added.
pub record WorksTo (Read : Saw → List Entry → Type 0) (state : Path) (rules : List Rule) (clock : Clock) (asked : Asked)
    (plan : Option Plan) (faults all_faults : List Fault) (w : Work) (ts : List Entry) : Type 0 where
  pub plan_is : plan ≡ Some w.plan
  pub faults_are : all_faults ≡ faults ++ (w.saw.faults ++ (w.plan.faults ++ act_faults w.acts))
  pub entries : ts ≡ w.reads ++ (w.looks ++ w.did)
  pub read : Read w.saw w.reads
  pub sets : ShowsSets state rules w.saw w.looks
  pub planned : IsPlanOf rules w.saw clock asked w.plan
  pub done : CarriesOut state clock w

-- Behind reads so, this was seen, and the text of the state could become too big by the plan that follows.
pub record SeesTooBig (Read : Saw → List Entry → Type 0) (state : Path) (rules : List Rule) (clock : Clock) (asked : Asked)
    (saw : Saw) (ts : List Entry) : Type 0 where
  pub reads : List Entry
  pub looks : List Entry
  pub entries : ts ≡ reads ++ looks
  pub read : Read saw reads
  pub sets : ShowsSets state rules saw looks
  pub big : 67_108_864 < length (measured_by saw (plan_by rules saw clock asked) clock)

-- the one or the other
pub data LooksAndActs (Read : Saw → List Entry → Type 0) (state : Path) (rules : List Rule) (clock : Clock) (asked : Asked)
    (plan : Option Plan) (faults all_faults : List Fault) (work : Option Work) (ts : List Entry) : Type 0 where
  saw_too_big : (saw : Saw) → plan ≡ None → work ≡ None → all_faults ≡ faults ++ (saw.faults ++ fault.State 0 kind.TooBig ∷ [])
      → SeesTooBig Read state rules clock asked saw ts → LooksAndActs Read state rules clock asked plan faults all_faults work ts
  came_to : (w : Work) → work ≡ Some w → WorksTo Read state rules clock asked plan faults all_faults w ts
      → LooksAndActs Read state rules clock asked plan faults all_faults work ts

-- this is known, and its reads stand before
abbrev pub IsKnownBefore : Remembered → Saw → List Entry → Type 0
IsKnownBefore remembered saw reads = (saw.table ≡ remembered.table) × (saw.stale ≡ remembered.stale) × (reads ≡ [])

-- the text was read, and says the table
pub record KnowsText (state : Path) (saw : Saw) (reads : List Entry) : Type 0 where
  pub shown : ShowsStateText state saw.text saw.stale reads
  pub says : TextSaysOnly saw.text (Ok saw.table)

-- Between its begin and its end a run did its work, or nothing is known of the state.
pub data WorksOn (state : Path) (rules : List Rule) (clock : Clock) (asked : Asked) (plan : Option Plan)
    (faults all_faults : List Fault) (work : Option Work) (ts : List Entry) : Type 0 where
  knows_none : (f : Fault) → plan ≡ None → work ≡ None → all_faults ≡ faults ++ f ∷ [] → LacksState state f ts
      → WorksOn state rules clock asked plan faults all_faults work ts
  knows : LooksAndActs (KnowsText state) state rules clock asked plan faults all_faults work ts
      → WorksOn state rules clock asked plan faults all_faults work ts

-- and then the run ended
abbrev pub EndsWork : Path → List Rule → Clock → Asked → Option Plan → List Fault → List Fault → Option Work → List Entry → Type 0
EndsWork state rules clock asked plan faults all_faults work =
    Then (WorksOn state rules clock asked plan faults all_faults work) (Are (Ends ∷ []))

-- ---- the same where there was no memory

-- a first part of the acts
pub record SomeActs (steps : List SetSteps) (ts : List Entry) : Type 0 where
  pub marks : List Mark
  pub faults : List Fault
  pub part : SetsCut steps marks faults ts

-- A first part of the work: of what is seen, or of the acts.
pub data SomeWork (state : Path) (rules : List Rule) (clock : Clock) (asked : Asked) (ts : List Entry) : Type 0 where
  some_seen : SomeSeen state rules ts → SomeWork state rules clock asked ts
  some_done : BrokeOff state rules clock asked ts → SomeWork state rules clock asked ts

-- It ends so behind these looks, whatever of them is shown before.
pub record EndsBehindLooks (rules : Rules) (looks : Looks) (state : Path) (remembered : Remembered) (clock : Clock) (asked : Asked)
    (ts : List Entry) : Type 0 where
  pub some : (sights : StateSights) (reads ls : List Entry) (of_looks : List Fault) → IsKnown state sights (Ok remembered)
      → ShowsState state 65_536 sights reads
      → (shown : ShowsLooks (reserved_by state) rules.sets looks.sets of_looks ls) → looks.kept ≡ paths_of shown.kept
      → SomeWork state rules.sets clock asked (reads ++ (ls ++ ts))

-- It ends so behind a reading by which this is known.
pub record EndsBehindState (state : Path) (rules : List Rule) (clock : Clock) (asked : Asked) (remembered : Remembered)
    (ts : List Entry) : Type 0 where
  pub some : (sights : StateSights) (reads : List Entry) → IsKnown state sights (Ok remembered)
      → ShowsState state 65_536 sights reads → SomeWork state rules clock asked (reads ++ ts)

-- ---- around the work

-- The run began and ended, and of the entries between the two this holds.
pub record Begun (state : Path) (clock : Clock) (rules : Rules) (P : List Entry → Type 0) (ts : List Entry) : Type 0 where
  pub between : List Entry
  pub entries : ts ≡ Starts state clock.now rules ∷ (between ++ Ends ∷ [])
  pub within : P between

-- what was left from the begin on: the work, or the begin failed
pub data Goes (state : Path) (asked : Asked) (clock : Clock) (rules : Rules) (plan : Option Plan) (faults all_faults : List Fault)
    (work : Option Work) (ts : List Entry) : Type 0 where
  begun : Begun state clock rules (WorksOn state rules.sets clock asked plan faults all_faults work) ts
      → Goes state asked clock rules plan faults all_faults work ts
  not_begun : plan ≡ None → work ≡ None → all_faults ≡ faults ++ fault.Call call.Begin state ∷ []
      → Maybe (Starts state clock.now rules) ts → Goes state asked clock rules plan faults all_faults work ts

abbrev pub RunStopped : Path → Asked → Clock → Rules → RunStop → List Entry → Type 0
RunStopped state asked clock rules stop.Held ts = ts ≡ []
RunStopped state asked clock rules stop.Memory ts = Begun state clock rules (SomeWork state rules.sets clock asked) ts

-- a run that stopped: the lock is another's, or there was no memory
abbrev pub StopsSo : Path → Asked → Clock → Rules → RunStop → List Entry → Type 0
StopsSo state asked clock rules stop.Held ts = Sees (parent_of state) IsDir ts
StopsSo state asked clock rules stop.Memory ts = LacksMemory state asked clock rules ts

-- ---- a dry run

-- the plan, where it is small enough, and else none
abbrev pub plan_if : Bool → Plan → Option Plan
plan_if true plan = Some plan
plan_if false plan = None

-- its faults, or the one of a text that could become too big
abbrev pub faults_if : Bool → Plan → List Fault
faults_if true plan = plan.faults
faults_if false plan = fault.State 0 kind.TooBig ∷ []
