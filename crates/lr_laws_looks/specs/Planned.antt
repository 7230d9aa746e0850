-- The logs of a plan, as laws have them.
use Rattle.std.specs.Prelude.{List, map}
use Rattle.std.specs.List.{flat_map}
use Rattle.lr_plan.specs.declared.plan.LogPlan.{LogPlan}
use Rattle.lr_plan.specs.declared.plan.Plan.{Plan}
use Rattle.lr_plan.specs.declared.plan.SetPlan.{SetPlan}
use Rattle.lr_laws_rotations.specs.Target.{Target}
use Rattle.lr_laws_acts.specs.Planned.{bare}

-- a log, with its rotation, of which each removal is without the programs before it
abbrev pub target_in : LogPlan → Target
target_in log = record {
  log = log.log;
  naming = log.naming;
  count = log.count;
  maxage = log.maxage;
  stand = log.stand;
  ready = bare log.ready;
  job = log.job;
  aside = log.aside;
}

-- the logs of these definitions, and of all
abbrev pub targets_of_sets : List SetPlan → List Target
targets_of_sets sets = flat_map (λ set. map target_in set.logs) sets

abbrev pub targets_in : Plan → List Target
targets_in plan = targets_of_sets plan.sets
