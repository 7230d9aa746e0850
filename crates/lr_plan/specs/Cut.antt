-- Where there was no memory to run a program: a first part of the acts, each step of it whole but for those that failed.
use Rattle.std.specs.Prelude.{◌≡◌, List, ◌∷◌, ◌++◌}
use Rattle.lr_rules.specs.declared.fault.Fault.{Fault}
use Rattle.lr_host.specs.declared.entry.Entry.{Entry}
use Rattle.lr_plan.specs.declared.mark.Mark.{Mark}
use Rattle.lr_plan.specs.declared.step.SetSteps.{SetSteps}
use Rattle.lr_plan.specs.declared.step.Step.{Step}
use Rattle.lr_plan.specs.declared.step.Step.TheVariants.{Runs}
use Rattle.lr_plan.specs.Course.{Part, Course, Unbroken, Both, Every}
use Rattle.lr_plan.specs.Done.{LogsThen, SetDone}

-- the step runs a program: that alone takes memory
abbrev pub IsProgram : Step → Type 0
IsProgram (Runs phase on command) = Unit {0}
IsProgram _ = ⊥

-- the first of the steps were made, and the next would run a program
pub record CourseCut (steps : List Step) (marks : List Mark) (faults : List Fault) (ts : List Entry) : Type 0 where
  pub made : List Step
  pub next : Step
  pub rest : List Step
  pub steps_are : steps ≡ made ++ next ∷ rest
  pub program : IsProgram next
  pub part : Unbroken (Course made) marks faults ts

-- the first parts of the list were done, and of the next this
pub record ListCut {A : Type 0} (P Q : A → Part) (list : List A) (marks : List Mark) (faults : List Fault)
    (ts : List Entry) : Type 0 where
  pub done : List A
  pub next : A
  pub rest : List A
  pub list_is : list ≡ done ++ next ∷ rest
  pub part : Both (Every P done) (Q next) marks faults ts

-- in the steps of one log; or in the last, where a log was rotated
pub data LogsCut (each : List (List Step)) (last : List Step) (marks : List Mark) (faults : List Fault)
    (ts : List Entry) : Type 0 where
  in_each : ListCut Course CourseCut each marks faults ts → LogsCut each last marks faults ts
  in_last : LogsThen CourseCut each last marks faults ts → LogsCut each last marks faults ts

-- in the first steps of a definition; or behind them
pub data SetCut (set : SetSteps) (marks : List Mark) (faults : List Fault) (ts : List Entry) : Type 0 where
  in_first : CourseCut set.first marks faults ts → SetCut set marks faults ts
  in_logs : Both (Unbroken (Course set.first)) (LogsCut set.each set.last) marks faults ts → SetCut set marks faults ts

-- in one of all definitions
abbrev pub SetsCut : List SetSteps → Part
SetsCut sets = ListCut SetDone SetCut sets
