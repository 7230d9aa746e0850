use Rattle.std.proofs.Common.{◌≡◌, ◌++◌, take}
use Rattle.std.specs.List.{flat_map}
use Rattle.lr_audited.specs.Gaps.{log_gaps}
use Rattle.lr_audited.proofs.gaps.add_set.Given as goal

abbrev pub invariant-loop-look : goal.invariant-loop-look
invariant-loop-look l = record { gaps : l.gaps.items ≡ l.initial.gaps.items ++ flat_map log_gaps (take l.look-index l.looks) }
