use Rattle.std.proofs.Common.{drop}
use Rattle.std.specs.Prelude.{◌↔◌}
use Rattle.lr_host.specs.Fits.{LengthsDiffer}
use Rattle.lr_disk.proofs.lengths.are_apart.Given as goal

abbrev pub invariant-loop-i : goal.invariant-loop-i
invariant-loop-i l = LengthsDiffer (drop l.i l.lengths) ↔ LengthsDiffer l.lengths
