-- What one step of the acts comes to.
use Rattle.std.specs.Prelude.{◌≡◌, ◌⊎◌, ℕ, Bool, true, false, List, [], ◌∷◌, ◌++◌, Option, Result, Ok, Err, IfOk}
use Rattle.lr_rules.specs.declared.fault.Fault.{Fault}
use Rattle.lr_rules.specs.declared.fault.Fault.TheVariants as fault
use Rattle.lr_rules.specs.declared.memory.Memory.{Memory}
use Rattle.lr_host.specs.declared.entry.Entry.{Entry}
use Rattle.lr_host.specs.declared.journal.Journal.{Journal}
use Rattle.lr_host.specs.Told.{Counts, Rose}
use Rattle.lr_scripts.specs.declared.command.Bad.{Bad}
use Rattle.lr_scripts.specs.declared.command.Bad.TheVariants as bad
use Rattle.lr_scripts.specs.declared.command.Command.{Command}
use Rattle.lr_plan.specs.declared.mark.Mark.{Mark}
use Rattle.lr_plan.specs.declared.step.Step.{Step}
use Rattle.lr_plan.specs.declared.step.Step.TheVariants.{Creates}
use Rattle.lr_plan.specs.declared.step.SetSteps.{SetSteps}
use Rattle.lr_plan.specs.Outcomes.{Succeeds, Fails, marks_of}
use Rattle.lr_plan.specs.Course.{Part, Nothing, Course, StepFails, Unbroken, BrokenOff}
use Rattle.lr_plan.specs.Cut.{IsProgram, CourseCut}
use Rattle.lr_acts.specs.declared.stop.Stop.{Stop}
use Rattle.lr_acts.specs.declared.stop.Stop.TheVariants as stop
use Rattle.lr_acts.specs.Named.{PathIsNamed}
use Rattle.lr_acts.specs.Taken.{WasTaken}

-- ---- one step

-- what a step left, by its answer
abbrev pub StepLeft : Step → Result (Option Mark) Stop → List Entry → Type 0
StepLeft step (Ok told) ts = Succeeds step ts
StepLeft step (Err (stop.Fault f)) ts = Fails step f ts
StepLeft step (Err stop.Memory) ts = ts ≡ []

-- a log that is made anew is named behind its step, whoever made it
abbrev pub StepNames : Step → Result (Option Mark) Stop → Option Journal → Type 0
StepNames (Creates path mode) answer told = IfOk answer (λ m. PathIsNamed path told)
StepNames _ answer told = Unit {0}

-- what is told of a program that was refused
abbrev pub program_stop : List ℕ → Command → Bad → Stop
program_stop on command (bad.Script phase end) = stop.Fault (fault.Script phase on end)
program_stop on command (bad.Call kind) = stop.Fault (fault.Call kind command.program)
program_stop on command bad.Memory = stop.Memory

-- A failed call is told only where faults rose, a bad end only where bad ends did, a taken path only where it is named; the clock,
-- the zone and the output have no fault here.
abbrev pub FaultCause : Fault → Counts → Counts → Option Journal → Option Journal → Type 0
FaultCause (fault.Call kind path) before now told later = Rose before.faults now.faults
FaultCause (fault.Script phase on end) before now told later = Rose before.bad_ends now.bad_ends
FaultCause (fault.Taken path) before now told later = WasTaken path told later
FaultCause fault.Clock before now told later = ⊥
FaultCause (fault.Zone why) before now told later = ⊥
FaultCause fault.Out before now told later = ⊥
FaultCause _ before now told later = Unit {0}

abbrev pub StopCause : Stop → Counts → Counts → Option Journal → Option Journal → Type 0
StopCause (stop.Fault f) before now told later = FaultCause f before now told later
StopCause stop.Memory before now told later = Unit {0}

-- ---- by the answer: whole, broken off, or no memory

abbrev pub WasMade : Step → Part
WasMade step marks faults ts = (marks ≡ marks_of step) × (faults ≡ []) × Succeeds step ts

abbrev pub StepEnds : Step → Result Bool Memory → Part
StepEnds step (Ok true) = WasMade step
StepEnds step (Ok false) = StepFails step
StepEnds step (Err m) = Nothing

abbrev pub StepsEnd : List Step → Result Bool Memory → Part
StepsEnd steps (Ok true) = Unbroken (Course steps)
StepsEnd steps (Ok false) = BrokenOff (Course steps)
StepsEnd steps (Err m) = CourseCut steps

abbrev pub EndsSo : {T : Type 0} → Part → Part → Result T Memory → Part
EndsSo P Q (Ok x) = P
EndsSo P Q (Err m) = Q

-- ---- all steps of lists and of definitions, in order

abbrev pub all_of_each : List (List Step) → List Step
all_of_each [] = []
all_of_each (steps ∷ each) = steps ++ all_of_each each

abbrev pub all_of_set : SetSteps → List Step
all_of_set set = set.first ++ (all_of_each set.each ++ set.last)

abbrev pub all_of_sets : List SetSteps → List Step
all_of_sets [] = []
all_of_sets (set ∷ sets) = all_of_set set ++ all_of_sets sets

-- ---- what takes memory: programs alone

-- one of the steps runs a program
abbrev pub HasProgram : List Step → Type 0
HasProgram [] = ⊥
HasProgram (step ∷ steps) = IsProgram step ⊎ HasProgram steps
