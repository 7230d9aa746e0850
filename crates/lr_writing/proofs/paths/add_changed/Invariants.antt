use Rattle.std.proofs.Common.{◌≡◌, ◌++◌, take}
use Rattle.lr_writing.specs.Synced.{changed_of}
use Rattle.lr_writing.proofs.paths.add_changed.Given as goal

abbrev pub invariant-loop-log : goal.invariant-loop-log
invariant-loop-log l = record { paths : l.paths.items ≡ l.initial.paths.items ++ changed_of (take l.log-index l.logs) }
