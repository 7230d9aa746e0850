use Rattle.std.proofs.Common.{◌↔◌, drop}
use Rattle.lr_host.specs.Lists.{AreDistinct}
use Rattle.lr_disk.specs.Pairs.{keys}
use Rattle.lr_disk.proofs.valid.hold_once.Given as goal

abbrev pub invariant-loop-i : goal.invariant-loop-i
invariant-loop-i l = AreDistinct (keys (drop l.i l.holds)) ↔ AreDistinct (keys l.holds)
