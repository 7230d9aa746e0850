use Rattle.std.proofs.Common.{drop}
use Rattle.std.specs.Prelude.{◌↔◌}
use Rattle.lr_disk.specs.Names.{named_in}
use Rattle.lr_disk.specs.Lengths.{AreWithin}
use Rattle.lr_disk.proofs.lengths.are_within.Given as goal

abbrev pub invariant-loop-pair : goal.invariant-loop-pair
invariant-loop-pair l = AreWithin l.files (named_in l.names) (drop l.pair-index l.lengths) ↔ AreWithin l.files (named_in l.names) l.lengths
