-- What a run leaves and answers: it halted before its plan, or it came to its plan.
use Rattle.std.specs.Prelude.{◌≡◌, Bool, true, false, List, [], ◌++◌, Option, Some, None, Result, Ok, Err}
use Rattle.lr_rules.specs.declared.clock.Clock.{Clock}
use Rattle.lr_rules.specs.declared.fault.Fault.{Fault}
use Rattle.lr_rules.specs.declared.fault.Fault.TheVariants as fault
use Rattle.lr_rules.specs.declared.path.Path.{Path}
use Rattle.lr_rules.specs.declared.rules.Rules.{Rules}
use Rattle.lr_host.specs.declared.entry.Entry.{Entry}
use Rattle.lr_host.specs.declared.journal.Journal.{Journal}
use Rattle.lr_host.specs.Lists.{IsIn}
use Rattle.lr_host.specs.Told.{Left}
use Rattle.lr_plan.specs.Asked.{Asked}
use Rattle.lr_plan.specs.declared.mark.Mark.{Mark}
use Rattle.lr_plan.specs.declared.mark.Mark.TheVariants as mark
use Rattle.lr_plan.specs.declared.step.Step.{Step}
use Rattle.lr_acts.specs.Named.{PathIsNamed}
use Rattle.lr_acts.specs.Taken.{WasTaken, LastTaken}
use Rattle.lr_run.specs.declared.answer.Ran.{Ran}
use Rattle.lr_run.specs.declared.answer.RunStop.{RunStop}
use Rattle.lr_run.specs.declared.answer.RunStop.TheVariants as stop
use Rattle.lr_run.specs.Halt.{Halt, OfFaults, OfLock, OfMemory, Halts}
use Rattle.lr_run.specs.Work.{Work, ShowsWork, CarriesOut, BreaksOff, DidNothing, act_faults, run_entries, steps_in}

-- ---- answers

-- the faults of a run's answer
abbrev pub run_faults : Result Ran RunStop → List Fault
run_faults (Ok ran) = ran.faults.items
run_faults (Err why) = []

-- of a run that halted: by its own faults, behind those that were handed in
abbrev pub AnswersHalt : List Fault → Halt → Result Ran RunStop → Type 0
AnswersHalt earlier (OfFaults own) (Ok ran) = (ran.plan ≡ None) × (ran.faults.items ≡ earlier ++ own)
AnswersHalt earlier OfLock (Err stop.Held) = Unit {0}
AnswersHalt earlier OfMemory (Err stop.Memory) = Unit {0}
AnswersHalt earlier _ _ = ⊥

-- of one that came to its plan: its plan, and the faults that were handed in, those of what it saw, of the plan, and of the acts
pub record Reports (earlier : List Fault) (w : Work) (ran : Ran) : Type 0 where
  pub plan : ran.plan ≡ Some w.plan
  pub faults : ran.faults.items ≡ earlier ++ (w.saw.faults ++ (w.plan.faults ++ act_faults w.acts))

-- A dry run did nothing; another carried its plan out, or broke off, where there was no memory for a program.
abbrev pub AnswersWork : Bool → Path → Clock → List Fault → Work → Result Ran RunStop → Type 0
AnswersWork true state clock earlier w (Ok ran) = Reports earlier w ran × DidNothing w
AnswersWork false state clock earlier w (Ok ran) = Reports earlier w ran × CarriesOut state clock w
AnswersWork false state clock earlier w (Err stop.Memory) = BreaksOff w
AnswersWork debug state clock earlier w _ = ⊥

-- ---- all of it

-- The run halted before its plan; or it came to it, and this is what it came to.
pub data RunEnds (debug : Bool) (state : Path) (rules : Rules) (clock : Clock) (asked : Asked) (earlier : List Fault)
    (result : Result Ran RunStop) (work : Option Work) (ts : List Entry) : Type 0 where
  halted : (halt : Halt) → work ≡ None → Halts debug state rules clock asked halt ts → AnswersHalt earlier halt result
      → RunEnds debug state rules clock asked earlier result work ts
  came : (w : Work) → work ≡ Some w → ShowsWork debug state rules.sets clock asked w
      → AnswersWork debug state clock earlier w result → ts ≡ run_entries debug state clock rules w
      → RunEnds debug state rules clock asked earlier result work ts

-- What the entries don't tell of acts with these marks, steps and faults, as a make that finds its path named leaves none: a log
-- that a step made anew is named at the end; and so was a path that is told as taken, from a moment on, where no step behind the
-- one that needs it unlinks it.
pub record TellsNames (marks : List Mark) (steps : List Step) (faults : List Fault) (told later : Option Journal) : Type 0 where
  pub named : (x : Path) → IsIn (mark.Created x) marks → PathIsNamed x later
  pub taken : (x : Path) → LastTaken x steps → IsIn (fault.Taken x) faults → WasTaken x told later

-- of what a run came to
abbrev pub TellsNamesOf : Path → Clock → Work → Option Journal → Option Journal → Type 0
TellsNamesOf state clock w told later = TellsNames w.acts.marks (steps_in state clock w) (w.plan.faults ++ act_faults w.acts) told
    later

-- What a run left and answered, by what it came to, if it came to a plan.
pub record RanSo (debug : Bool) (state : Path) (rules : Rules) (clock : Clock) (asked : Asked) (earlier : List Fault)
    (result : Result Ran RunStop) (told later : Option Journal) : Type 0 where
  pub work : Option Work
  pub shows : Left (RunEnds debug state rules clock asked earlier result work) told later
  pub names : (w : Work) (ran : Ran) → work ≡ Some w → result ≡ Ok ran → debug ≡ false → TellsNamesOf state clock w told later
