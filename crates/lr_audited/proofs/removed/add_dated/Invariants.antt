use Rattle.std.proofs.Common.{◌≡◌, ◌+◌, ◌++◌, take}
use Rattle.lr_audited.specs.Removed.{dated_going}
use Rattle.lr_audited.proofs.removed.add_dated.Given as goal

abbrev pub invariant-loop-member : goal.invariant-loop-member
invariant-loop-member l = record {
  later : l.later ≡ l.first + l.member-index;
  into : l.into.items ≡ l.initial.into.items ++ dated_going l.bounds.count l.bounds.maxage l.bounds.now l.first (take l.member-index l.members);
}
