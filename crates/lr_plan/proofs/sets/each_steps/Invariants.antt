use Rattle.std.proofs.Common.{◌≡◌, map, take}
use Rattle.lr_plan.specs.Steps.{steps_of_log}
use Rattle.lr_plan.proofs.sets.each_steps.Given as goal

abbrev pub invariant-loop-log : goal.invariant-loop-log
invariant-loop-log l = l.each.items ≡ map steps_of_log (take l.log-index l.logs)
