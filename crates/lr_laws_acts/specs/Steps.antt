-- Steps that empty logs, each copied just before.
use Rattle.std.specs.Prelude.{◌≡◌, true, List, [], ◌∷◌, ◌++◌, All}
use Rattle.lr_rules.specs.declared.path.Path.{Path}
use Rattle.lr_copy.specs.declared.job.Job.{Job}
use Rattle.lr_plan.specs.declared.step.SetSteps.{SetSteps}
use Rattle.lr_plan.specs.declared.step.Step.{Step}
use Rattle.lr_plan.specs.declared.step.Step.TheVariants.{Removes, Renames, Takes, Copies, SyncsFile, SyncsDir, Truncates}
use Rattle.lr_plan.specs.Steps.{step_if}

-- the steps of a copy, up to the sync of its directory
abbrev pub named_steps : Job → List Step
named_steps job = step_if job.stale (Removes job.part) ++ (Takes job.part job.mode ∷ Copies job.from job.part job.limit ∷ SyncsFile
    job.part ∷ Renames job.part job.to ∷ SyncsDir job.dir ∷ [])

-- The last of these steps are those of a copy of the log, by a job that has P and asks that the log is emptied.
pub record CopyStepsLast (P : Job → Type 0) (log : Path) (before : List Step) : Type 0 where
  pub job : Job
  pub is : P job
  pub from_is : job.from ≡ log
  pub cut : job.cut ≡ true
  pub front : List Step
  pub joined : before ≡ front ++ named_steps job

-- Each log that these steps empty they copy just before, by such a job.
abbrev pub AreCopySteps : (Job → Type 0) → List Step → Type 0
AreCopySteps P steps = (before : List Step) (log : Path) (after : List Step) → steps ≡ before ++ (Truncates log ∷ after)
    → CopyStepsLast P log before

-- The same of each list of steps of a definition.
pub record IsCopySet (P : Job → Type 0) (set : SetSteps) : Type 0 where
  pub first : AreCopySteps P set.first
  pub each : All (AreCopySteps P) set.each
  pub last : AreCopySteps P set.last

-- And of all definitions.
abbrev pub EmptyCopied : (Job → Type 0) → List SetSteps → Type 0
EmptyCopied P sets = All (IsCopySet P) sets
