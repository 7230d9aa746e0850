use Rattle.std.proofs.Common.{◌≡◌, take, false}
use Rattle.lr_disk.specs.Names.{has_path}
use Rattle.lr_disk.proofs.names.make_name.Given as goal

abbrev pub invariant-loop-pair : goal.invariant-loop-pair
invariant-loop-pair l = has_path (take l.pair-index l.pair-items) l.path ≡ false
