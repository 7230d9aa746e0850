use Rattle.std.proofs.Common.{◌≡◌, drop}
use Rattle.lr_host.specs.World.{length_of}
use Rattle.lr_disk.proofs.lengths.length_for.Given as goal

abbrev pub invariant-loop-pair : goal.invariant-loop-pair
invariant-loop-pair l = length_of (drop l.pair-index l.lengths) l.identity ≡ length_of l.lengths l.identity
