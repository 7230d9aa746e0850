use Rattle.std.proofs.Common.{◌≡◌, ◌≤◌, ◌++◌, map, take, drop}
use Rattle.lr_audited.specs.Gaps.{gap_at, places_between}
use Rattle.lr_audited.proofs.gaps.add_between.Given as goal

abbrev pub invariant-loop-member : goal.invariant-loop-member
invariant-loop-member l = record {
  gaps : l.gaps.items ++ map (gap_at l.log) (take l.left (places_between l.from (drop l.member-index l.members))) ≡ l.initial.gaps.items ++ map (gap_at l.log) (take 1000 (places_between 0 l.members));
  from : l.from ≤ 4294967296;
}
