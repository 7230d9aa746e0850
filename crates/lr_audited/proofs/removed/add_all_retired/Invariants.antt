use Rattle.std.proofs.Common.{◌≡◌, ◌++◌, take}
use Rattle.std.specs.List.{flat_map}
use Rattle.lr_audited.specs.Removed.{retired_of}
use Rattle.lr_audited.proofs.removed.add_all_retired.Given as goal

abbrev pub invariant-loop-log : goal.invariant-loop-log
invariant-loop-log l = record { into : l.into.items ≡ l.initial.into.items ++ flat_map (retired_of l.clock) (take l.log-index l.logs) }
