use Rattle.std.proofs.Common.{◌≡◌, ◌++◌, take}
use Rattle.lr_run.specs.Paths.{logs_rotated}
use Rattle.lr_run.proofs.paths.add_logs.Given as goal

abbrev pub invariant-loop-log : goal.invariant-loop-log
invariant-loop-log l = record { paths : l.paths.items ≡ l.initial.paths.items ++ logs_rotated (take l.log-index l.logs) }
