-- The faults of a call's answer.
use Rattle.std.specs.Prelude.{Contains, List, [], Option, None, Result, Ok, Err}
use Rattle.lr_rules.specs.declared.fault.Fault.{Fault}
use Rattle.lr_plan.specs.declared.plan.Plan.{Plan}
use Rattle.lr_host.specs.Told.{Counts}
use Rattle.lr_run.specs.declared.answer.RunStop.{RunStop}
use Rattle.lr_run.specs.declared.answer.RunStop.TheVariants as stop
use Rattle.lr_report.specs.declared.outcome.Outcome.{Outcome}
use Rattle.lr_report.specs.Reported.{AreReported}
use Rattle.lr_report.specs.declared.outcome.Outcome.TheVariants.{Done, Held, OutOfMemory}
use Rattle.lr_cli.specs.declared.told.Told.{Told}

-- the answer of a run that told this, or stopped so
abbrev pub answer_of : Result Told RunStop → Outcome
answer_of (Ok told) = Done (record { notices = told.notices; faults = told.faults.items })
answer_of (Err stop.Held) = Held
answer_of (Err stop.Memory) = OutOfMemory

-- the plan that it came to
abbrev pub plan_told : Result Told RunStop → Option Plan
plan_told (Ok told) = told.plan
plan_told (Err why) = None

-- the faults that it told
abbrev pub told_faults : Result Told RunStop → List Fault
told_faults (Ok told) = told.faults.items
told_faults (Err why) = []

-- the report has the fault
abbrev pub HasFault : Outcome → Fault → Type 0
HasFault (Done report) f = Contains report.faults f
HasFault _ f = ⊥

-- the faults of the report
abbrev pub HasCounted : Outcome → Counts → Counts → Type 0
HasCounted (Done report) counted counts = AreReported report.faults counted counts
HasCounted _ counted counts = Unit {0}
