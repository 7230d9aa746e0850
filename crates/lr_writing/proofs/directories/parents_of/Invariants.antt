use Rattle.std.proofs.Common.{◌≡◌, map, take}
use Rattle.lr_rules.specs.Path.{parent_of}
use Rattle.lr_writing.proofs.directories.parents_of.Given as goal

abbrev pub invariant-loop-path : goal.invariant-loop-path
invariant-loop-path l = record { dirs : l.dirs.items ≡ map parent_of (take l.path-index l.paths) }
