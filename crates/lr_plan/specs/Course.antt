-- Steps one behind another, up to one that fails; and parts one behind another, whatever fails in them.
use Rattle.std.specs.Prelude.{◌≡◌, ◌⊎◌, List, [], ◌∷◌, ◌++◌}
use Rattle.lr_rules.specs.declared.fault.Fault.{Fault}
use Rattle.lr_host.specs.declared.entry.Entry.{Entry}
use Rattle.lr_host.specs.Told.{Then}
use Rattle.lr_plan.specs.declared.mark.Mark.{Mark}
use Rattle.lr_plan.specs.declared.step.Step.{Step}
use Rattle.lr_plan.specs.Outcomes.{Succeeds, Fails, marks_of}

-- What acts came to: the marks of the steps that they made, the faults that they met, and the entries that they left.
abbrev pub Part : Type 1
Part = List Mark → List Fault → List Entry → Type 0

-- nothing was done
abbrev pub Nothing : Part
Nothing marks faults ts = (marks ≡ []) × (faults ≡ []) × (ts ≡ [])

-- the step failed with one fault
pub record StepFails (step : Step) (marks : List Mark) (faults : List Fault) (ts : List Entry) : Type 0 where
  pub fault : Fault
  pub told : faults ≡ fault ∷ []
  pub none : marks ≡ []
  pub failed : Fails step fault ts

-- the step was made, and then this
pub record StepThen (step : Step) (P : Part) (marks : List Mark) (faults : List Fault) (ts : List Entry) : Type 0 where
  pub later : List Mark
  pub marks_are : marks ≡ marks_of step ++ later
  pub entries : Then (Succeeds step) (P later faults) ts

-- These steps, in order: all of them, or those before one that failed and what that one left. So there is at most one fault.
abbrev pub Course : List Step → Part
Course [] marks faults ts = Nothing marks faults ts
Course (step ∷ steps) marks faults ts = StepFails step marks faults ts ⊎ StepThen step (Course steps) marks faults ts

-- without a fault; with one
abbrev pub Unbroken : Part → Part
Unbroken P marks faults ts = (faults ≡ []) × P marks faults ts

pub record BrokenOff (P : Part) (marks : List Mark) (faults : List Fault) (ts : List Entry) : Type 0 where
  pub fault : Fault
  pub told : faults ≡ fault ∷ []
  pub part : P marks faults ts

-- The one part and then the other, whatever faults the first met.
pub record Both (P Q : Part) (marks : List Mark) (faults : List Fault) (ts : List Entry) : Type 0 where
  pub first_marks : List Mark
  pub second_marks : List Mark
  pub marks_are : marks ≡ first_marks ++ second_marks
  pub first_faults : List Fault
  pub second_faults : List Fault
  pub faults_are : faults ≡ first_faults ++ second_faults
  pub entries : Then (P first_marks first_faults) (Q second_marks second_faults) ts

-- one part for each of a list
abbrev pub Every : {A : Type 0} → (A → Part) → List A → Part
Every P [] = Nothing
Every P (x ∷ xs) = Both (P x) (Every P xs)
