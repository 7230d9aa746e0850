use Rattle.std.proofs.Common.{◌≡◌, take}
use Rattle.lr_rules.specs.Dated.{stamp_key}
use Rattle.lr_chain.proofs.Removed.{AreLater}
use Rattle.lr_chain.proofs.dated_gone.later_than.Given as goal

abbrev pub invariant-loop-member : goal.invariant-loop-member
invariant-loop-member l = record {
  all : AreLater (stamp_key l.target.seconds l.target.serial) (take l.member-index l.members);
  count : l.later ≡ l.member-index;
}
