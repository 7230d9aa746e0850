use Rattle.std.proofs.Common.{◌≡◌, take, false}
use Rattle.lr_disk.specs.State.{has_writer}
use Rattle.lr_disk.proofs.holds.set_hold.Given as goal

abbrev pub invariant-loop-i : goal.invariant-loop-i
invariant-loop-i l = record {
  same : l.holds ≡ l.fn.holds;
  new : has_writer (take l.i l.holds) l.writer ≡ false;
}
