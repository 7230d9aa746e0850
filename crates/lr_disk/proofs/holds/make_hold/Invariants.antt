use Rattle.std.proofs.Common.{◌≡◌, take, false}
use Rattle.lr_disk.specs.State.{has_writer}
use Rattle.lr_disk.proofs.holds.make_hold.Given as goal

abbrev pub invariant-loop-pair : goal.invariant-loop-pair
invariant-loop-pair l = has_writer (take l.pair-index l.pair-items) l.writer ≡ false
