use Rattle.std.proofs.Common.{◌≡◌, ◌++◌, take}
use Rattle.lr_writing.specs.Synced.{to_make_of}
use Rattle.lr_writing.proofs.paths.add_to_make.Given as goal

abbrev pub invariant-loop-log : goal.invariant-loop-log
invariant-loop-log l = record { dirs : l.dirs.items ≡ l.initial.dirs.items ++ to_make_of (take l.log-index l.logs) }
