use Rattle.std.proofs.Common.{◌≡◌, ◌+◌, ◌++◌, map, take}
use Rattle.lr_chain.specs.DatedRotation.{gone}
use Rattle.lr_chain.specs.DatedReady.{ranked, removal_of}
use Rattle.lr_chain.proofs.dated_gone.add_gone.Given as goal

abbrev pub invariant-loop-member : goal.invariant-loop-member
invariant-loop-member l = record {
  later : l.later ≡ l.first + l.member-index;
  removals : l.into.items ≡ l.initial.into.items ++ map removal_of (gone l.kept.count l.first (map (ranked l.kept.maxage l.kept.now) (take l.member-index l.members)));
}
