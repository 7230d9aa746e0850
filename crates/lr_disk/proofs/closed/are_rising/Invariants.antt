use Rattle.std.proofs.Common.{◌≤◌, drop}
use Rattle.std.specs.Prelude.{◌↔◌}
use Rattle.lr_host.specs.Fits.{AreRising}
use Rattle.lr_disk.proofs.closed.are_rising.Given as goal

abbrev pub invariant-loop-place : goal.invariant-loop-place
invariant-loop-place l = record {
  within : l.from ≤ l.count;
  rising : AreRising l.from (drop l.place-index l.kept) l.count ↔ AreRising 0 l.kept l.count;
}
