-- A path that is unlinked behind a copy from it: by the entries, and by the steps.
use Rattle.std.specs.Prelude.{◌≡◌, ◌≢◌, ℕ, false, List, ◌∷◌, ◌++◌, All, Some}
use Rattle.lr_rules.specs.declared.path.Path.{Path}
use Rattle.lr_host.specs.declared.entry.Entry.{Entry}
use Rattle.lr_host.specs.declared.entry.Entry.TheVariants.{Unlinks}
use Rattle.lr_scripts.specs.declared.removal.Removal.{Removal}
use Rattle.lr_copy.specs.declared.job.Job.{Job}
use Rattle.lr_laws_family.specs.Whole.{Named}
use Rattle.lr_plan.specs.declared.plan.LogPlan.{LogPlan}
use Rattle.lr_plan.specs.declared.plan.SetPlan.{SetPlan}
use Rattle.lr_plan.specs.declared.step.SetSteps.{SetSteps}
use Rattle.lr_plan.specs.declared.step.Step.{Step}
use Rattle.lr_plan.specs.declared.step.Step.TheVariants.{Removes}
use Rattle.lr_laws_acts.specs.Steps.{named_steps}

-- ---- by the entries

-- The last of these entries are a copy from the path, up to the sync of its directory, by a job that has P.
pub record CopiedFrom (P : Job → Type 0) (x : Path) (before : List Entry) : Type 0 where
  pub job : Job
  pub is : P job
  pub from_is : job.from ≡ x
  pub count : ℕ
  pub front : List Entry
  pub named : List Entry
  pub joined : before ≡ front ++ named
  pub is_named : Named job count named

-- Where these entries unlink the path, it was copied just before, by such a job.
abbrev pub UnlinksCopied : (Job → Type 0) → Path → List Entry → Type 0
UnlinksCopied P x ts = (before after : List Entry) → ts ≡ before ++ (Unlinks x ∷ after) → CopiedFrom P x before

-- ---- by the steps

-- The last of these steps are those of a copy from the path, by a job that has P.
pub record CopyStepsFrom (P : Job → Type 0) (x : Path) (before : List Step) : Type 0 where
  pub job : Job
  pub is : P job
  pub from_is : job.from ≡ x
  pub front : List Step
  pub joined : before ≡ front ++ named_steps job

-- Where these steps remove the path, they copy it just before, by such a job.
abbrev pub RemoveCopied : (Job → Type 0) → Path → List Step → Type 0
RemoveCopied P x steps = (before after : List Step) → steps ≡ before ++ (Removes x ∷ after) → CopyStepsFrom P x before

-- the same of each list of steps of a definition
pub record IsLettingSet (P : Job → Type 0) (x : Path) (set : SetSteps) : Type 0 where
  pub first : RemoveCopied P x set.first
  pub each : All (RemoveCopied P x) set.each
  pub last : RemoveCopied P x set.last

-- and of all definitions
abbrev pub LetGoCopied : (Job → Type 0) → Path → List SetSteps → Type 0
LetGoCopied P x sets = All (IsLettingSet P x) sets

-- ---- of a plan

abbrev pub AreElsewhere : Path → List Removal → Type 0
AreElsewhere x removals = All (λ r. r.path ≢ x) removals

-- Of a log's plan nothing has this path, but where the log waits that is set aside: then the copy from there has P.
pub record MayLetGo (P : Job → Type 0) (x : Path) (log : LogPlan) : Type 0 where
  pub leftovers : AreElsewhere x log.ready.leftovers
  pub retire : AreElsewhere x log.ready.retire
  pub part : (job : Job) → log.job ≡ Some job → job.part ≢ x
  pub waits : (job : Job) → log.job ≡ Some job → log.aside ≡ Some x → P job × (job.from ≡ x) × (job.cut ≡ false)

-- so of all logs of a plan
abbrev pub MayAllLetGo : (Job → Type 0) → Path → List SetPlan → Type 0
MayAllLetGo P x sets = All (λ set. All (MayLetGo P x) set.logs) sets
