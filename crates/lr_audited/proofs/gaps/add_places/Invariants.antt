use Rattle.std.proofs.Common.{◌≡◌, ◌++◌, map}
use Rattle.std.specs.List.{range_with_len}
use Rattle.lr_audited.specs.Gaps.{gap_at}
use Rattle.lr_audited.proofs.gaps.add_places.Given as goal

abbrev pub invariant-loop-at : goal.invariant-loop-at
invariant-loop-at l = record { gaps : l.gaps.items ≡ l.initial.gaps.items ++ map (gap_at l.log) (range_with_len l.from l.at) }
