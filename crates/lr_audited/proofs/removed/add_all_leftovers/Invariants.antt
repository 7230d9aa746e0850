use Rattle.std.proofs.Common.{◌≡◌, ◌++◌, take}
use Rattle.std.specs.List.{flat_map}
use Rattle.lr_audited.specs.Removed.{leftovers_of}
use Rattle.lr_audited.proofs.removed.add_all_leftovers.Given as goal

abbrev pub invariant-loop-log : goal.invariant-loop-log
invariant-loop-log l = record { into : l.into.items ≡ l.initial.into.items ++ flat_map leftovers_of (take l.log-index l.logs) }
