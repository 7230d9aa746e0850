use Rattle.std.proofs.Common.{◌≡◌, take, false}
use Rattle.lr_disk.specs.Names.{has_path}
use Rattle.lr_disk.proofs.names.set_name.Given as goal

abbrev pub invariant-loop-i : goal.invariant-loop-i
invariant-loop-i l = record {
  same : l.names ≡ l.fn.names;
  new : has_path (take l.i l.names) l.path ≡ false;
}
