-- Plans whose logs are those that were seen, each with its rotation ready.
use Rattle.std.specs.Prelude.{◌≡◌, ◌≢◌, List, [], ◌∷◌, map, None}
use Rattle.lr_rules.specs.declared.path.Path.{Path}
use Rattle.lr_scripts.specs.declared.removal.Removal.{Removal}
use Rattle.lr_chain.specs.declared.ready.Ready.{Ready}
use Rattle.lr_plan.specs.Planned.{with_removals}
use Rattle.lr_plan.specs.declared.plan.LogPlan.{LogPlan}
use Rattle.lr_plan.specs.declared.plan.SetPlan.{SetPlan}
use Rattle.lr_laws_rotations.specs.Target.{Target, HasWay, TargetHasJob}

-- the unlink of a file alone, without the programs before it; and a rotation with such removals
abbrev pub bare_removal : Removal → Removal
bare_removal r = record { path = r.path; preremove = None; mail = None }

abbrev pub bare : Ready → Ready
bare ready = with_removals (map bare_removal ready.leftovers) (map bare_removal ready.retire) ready

-- The rotation of the log is ready, and its copy, where it is copied, and where it waits that is set aside; and they are what the
-- plan does with it, besides the programs.
pub record IsReadyFor (t : Target) (log : LogPlan) : Type 0 where
  pub way : HasWay t
  pub job : TargetHasJob t
  pub log_is : log.log ≡ t.log
  pub ready_is : bare log.ready ≡ t.ready
  pub job_is : log.job ≡ t.job
  pub aside_is : log.aside ≡ t.aside

abbrev pub AreReadyFor : List Target → List LogPlan → Type 0
AreReadyFor [] [] = Unit {0}
AreReadyFor (t ∷ ts) (log ∷ logs) = IsReadyFor t log × AreReadyFor ts logs
AreReadyFor _ _ = ⊥

-- Each definition has its logs.
abbrev pub HaveLogs : List (List Target) → List SetPlan → Type 0
HaveLogs [] [] = Unit {0}
HaveLogs (ts ∷ groups) (set ∷ sets) = AreReadyFor ts set.logs × HaveLogs groups sets
HaveLogs _ _ = ⊥

-- this one is of another log
abbrev pub NoneHas : Path → List Target → Type 0
NoneHas log [] = Unit {0}
NoneHas log (t ∷ ts) = (t.log ≢ log) × NoneHas log ts

-- no log stands twice
abbrev pub LogsDiffer : List Target → Type 0
LogsDiffer [] = Unit {0}
LogsDiffer (t ∷ ts) = NoneHas t.log ts × LogsDiffer ts
