use Rattle.std.proofs.Common.{◌≡◌, ◌++◌, take}
use Rattle.std.specs.List.{flat_map}
use Rattle.lr_audit.specs.Dirs.{look_dir}
use Rattle.lr_audit.proofs.dirs.add_set_dirs.Given as goal

abbrev pub invariant-loop-look : goal.invariant-loop-look
invariant-loop-look l = record { dirs : l.dirs.items ≡ l.initial.dirs.items ++ flat_map look_dir (take l.look-index l.looks) }
