use Rattle.std.proofs.Common.{◌≡◌, ◌++◌, map, take}
use Rattle.lr_audited.specs.Lines.{log_line}
use Rattle.lr_audited.proofs.lines.add_logs.Given as goal

abbrev pub invariant-loop-log : goal.invariant-loop-log
invariant-loop-log l = record { lines : l.lines.items ≡ l.initial.lines.items ++ map log_line (take l.log-index l.logs) }
