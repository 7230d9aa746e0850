use Rattle.std.proofs.Common.{◌≡◌, ◌++◌, take}
use Rattle.std.specs.List.{flat_map}
use Rattle.lr_audited.specs.Removed.{log_removed}
use Rattle.lr_audited.proofs.removed.add_each.Given as goal

abbrev pub invariant-loop-log : goal.invariant-loop-log
invariant-loop-log l = record { into : l.into.items ≡ l.initial.into.items ++ flat_map (log_removed l.clock) (take l.log-index l.logs) }
