-- The copies of a plan are those of its logs.
use Rattle.std.proofs.Common.{◌≡◌, inl, inr, ⊎_elim, refl, sym, ap, ◌∙◌, subst, List, [], ◌∷◌, Option, Some}
use Rattle.std.specs.List.{flat_map}
use Rattle.std.proofs.lemmas.Grind.{flat_map-append}
use Rattle.std.specs.Prelude.{option_to_list}
use Rattle.lr_host.specs.Lists.{IsIn}
use Rattle.lr_host.proofs.Lists.{in_front, in_back, in_append}
use Rattle.lr_copy.specs.declared.job.Job.{Job}
use Rattle.lr_laws_acts.specs.Jobs.{jobs_in, jobs_of}
use Rattle.lr_plan.specs.declared.plan.LogPlan.{LogPlan}
use Rattle.lr_plan.specs.declared.plan.SetPlan.{SetPlan}
use Rattle.lr_laws_rotations.specs.Target.{Target}
use Rattle.lr_laws_acts.specs.Planned.{AreReadyFor}

-- that of a log is one of the logs'
pub job_in_logs : (ts : List Target) (logs : List LogPlan) → AreReadyFor ts logs → (t : Target) → IsIn t ts → (job : Job) → t.job ≡ Some job → IsIn job (jobs_in logs)
job_in_logs [] logs ready t i job is = absurd i
job_in_logs (u ∷ us) [] ready t i job is = absurd ready
job_in_logs (u ∷ us) (l ∷ ls) ready t (inl same) job is = in_front job (option_to_list l.job) (jobs_in ls) (subst (λ (j : Option Job). IsIn job (option_to_list j)) (sym (ready.0.job_is ∙ (ap (λ (x : Target). x.job) same ∙ is))) (inl refl))
job_in_logs (u ∷ us) (l ∷ ls) ready t (inr later) job is = in_back job (option_to_list l.job) (jobs_in ls) (job_in_logs us ls ready.1 t later job is)

-- those of all logs are those of the definitions
pub job_in_sets : (sets : List SetPlan) (job : Job) → IsIn job (jobs_in (flat_map (λ (set : SetPlan). set.logs) sets)) → IsIn job (jobs_of sets)
job_in_sets [] job i = i
job_in_sets (s ∷ ss) job i = ⊎_elim (λ here. in_front job (jobs_in s.logs) (jobs_of ss) here) (λ there. in_back job (jobs_in s.logs) (jobs_of ss) (job_in_sets ss job there))
    (in_append job (jobs_in s.logs) (jobs_in (flat_map (λ (set : SetPlan). set.logs) ss)) (subst (IsIn job) (flat_map-append (λ (log : LogPlan). option_to_list log.job) s.logs (flat_map (λ (set : SetPlan). set.logs) ss)) i))
