use Rattle.std.proofs.Common.{◌≡◌, drop}
use Rattle.lr_disk.specs.Lengths.{has_file}
use Rattle.lr_disk.proofs.lengths.is_named.Given as goal

abbrev pub invariant-loop-name : goal.invariant-loop-name
invariant-loop-name l = has_file (drop l.name-index l.names) l.identity ≡ has_file l.names l.identity
