use Rattle.std.proofs.Common.{length}
use Rattle.lr_cat.proofs.gives.+parts_match.Given as goal

abbrev pub decreases-parts_match : goal.decreases-parts_match
decreases-parts_match l = length l.parts.now
