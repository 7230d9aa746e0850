use Rattle.std.proofs.Common.{length}
use Rattle.lr_words.proofs.Pieces.{ReadTo}
use Rattle.lr_words.proofs.stamp.pieces_of.Given as goal

abbrev pub invariant-loop-left : goal.invariant-loop-left
invariant-loop-left l = ReadTo l.word l.pieces.items l.left

abbrev pub decreases-loop-left : goal.decreases-loop-left
decreases-loop-left l = length l.left
