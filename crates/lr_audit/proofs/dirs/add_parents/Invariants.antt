use Rattle.std.proofs.Common.{◌≡◌, ◌++◌, map, take}
use Rattle.lr_rules.specs.Path.{parent_of}
use Rattle.lr_audit.proofs.dirs.add_parents.Given as goal

abbrev pub invariant-loop-log : goal.invariant-loop-log
invariant-loop-log l = record { dirs : l.dirs.items ≡ l.initial.dirs.items ++ map parent_of (take l.log-index l.logs) }
