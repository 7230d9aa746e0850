use Rattle.std.proofs.Common.{◌≡◌, drop}
use Rattle.lr_disk.specs.State.{hold_in}
use Rattle.lr_disk.proofs.holds.hold_of.Given as goal

abbrev pub invariant-loop-pair : goal.invariant-loop-pair
invariant-loop-pair l = hold_in (drop l.pair-index l.holds) l.writer ≡ hold_in l.holds l.writer
