use Rattle.std.proofs.Common.{◌≡◌, map, take}
use Rattle.lr_plan.specs.Steps.{steps_of_set}
use Rattle.lr_plan.proofs.sets.steps_of.Given as goal

abbrev pub invariant-loop-set : goal.invariant-loop-set
invariant-loop-set l = l.parts.items ≡ map steps_of_set (take l.set-index l.sets)
