use Rattle.std.proofs.Common.{◌≡◌, length}
use Rattle.lr_shapes.specs.Shapes.{tokens_of}
use Rattle.lr_shapes.specs.Deciding.{may_be_empty}
use Rattle.lr_shapes.proofs.common.can_be_empty.Given as goal

abbrev pub invariant-loop-token : goal.invariant-loop-token
invariant-loop-token l = may_be_empty (tokens_of l.left) ≡ may_be_empty (tokens_of l.s)

abbrev pub decreases-loop-token : goal.decreases-loop-token
decreases-loop-token l = length (tokens_of l.left)
