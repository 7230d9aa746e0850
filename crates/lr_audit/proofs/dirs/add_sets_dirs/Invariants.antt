use Rattle.std.proofs.Common.{◌≡◌, ◌++◌, take}
use Rattle.std.specs.List.{flat_map}
use Rattle.lr_audit.specs.Dirs.{set_dirs}
use Rattle.lr_audit.proofs.dirs.add_sets_dirs.Given as goal

abbrev pub invariant-loop-set : goal.invariant-loop-set
invariant-loop-set l = record { dirs : l.dirs.items ≡ l.initial.dirs.items ++ flat_map set_dirs (take l.set-index l.sets) }
