-- The copies of a plan, and the rules that ask for them.
use Rattle.std.specs.Prelude.{List, option_to_list}
use Rattle.std.specs.List.{flat_map}
use Rattle.lr_copy.specs.declared.job.Job.{Job}
use Rattle.lr_plan.specs.declared.plan.LogPlan.{LogPlan}
use Rattle.lr_plan.specs.declared.plan.SetPlan.{SetPlan}

-- the copies of these logs
abbrev pub jobs_in : List LogPlan → List Job
jobs_in logs = flat_map (λ log. option_to_list log.job) logs

-- those of all logs of a plan
abbrev pub jobs_of : List SetPlan → List Job
jobs_of sets = flat_map (λ set. jobs_in set.logs) sets
