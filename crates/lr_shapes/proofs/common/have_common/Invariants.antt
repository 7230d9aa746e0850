use Rattle.std.proofs.Common.{◌≡◌, length}
use Rattle.lr_shapes.specs.Shapes.{tokens_of}
use Rattle.lr_shapes.specs.Deciding.{meet}
use Rattle.lr_shapes.proofs.common.have_common.Given as goal

abbrev pub invariant-loop-n : goal.invariant-loop-n
invariant-loop-n l = meet (tokens_of l.left) (tokens_of l.right) ≡ meet (tokens_of l.a) (tokens_of l.b)

abbrev pub decreases-loop-n : goal.decreases-loop-n
decreases-loop-n l = length (tokens_of l.left)
