use Rattle.std.proofs.Common.{◌≡◌, drop}
use Rattle.lr_disk.specs.Names.{named_in}
use Rattle.lr_disk.proofs.names.thing_at.Given as goal

abbrev pub invariant-loop-pair : goal.invariant-loop-pair
invariant-loop-pair l = named_in (drop l.pair-index l.names) l.path ≡ named_in l.names l.path
