use Rattle.std.proofs.Common.{◌≡◌, ◌++◌, take}
use Rattle.lr_plan.specs.Steps.{removals}
use Rattle.lr_plan.proofs.steps.add_removals.Given as goal

abbrev pub invariant-loop-file : goal.invariant-loop-file
invariant-loop-file l = l.steps.items ≡ l.initial.steps.items ++ removals (take l.file-index l.list)
