use Rattle.std.proofs.Common.{◌≡◌, ◌++◌, map, take}
use Rattle.lr_plan.specs.Steps.{move}
use Rattle.lr_plan.proofs.steps.add_moves.Given as goal

abbrev pub invariant-loop-one : goal.invariant-loop-one
invariant-loop-one l = l.steps.items ≡ l.initial.steps.items ++ map move (take l.one-index l.list)
