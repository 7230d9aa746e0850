use Rattle.std.proofs.Common.{◌≡◌, take}
use Rattle.lr_disk.proofs.entries.copy_lengths.Given as goal

abbrev pub invariant-loop-pair : goal.invariant-loop-pair
invariant-loop-pair l = l.copy.items ≡ take l.pair-index l.lengths
