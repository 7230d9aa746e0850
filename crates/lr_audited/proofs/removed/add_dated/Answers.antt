use Rattle.std.proofs.Common.{◌≡◌, ℕ, Bool, ◌++◌, subst, arith}
use Rattle.lr_audited.specs.Removed.{file_goes, member_going}
use Rattle.lr_audited.proofs.Going.{dated_more}
use Rattle.lr_audited.proofs.removed.add_dated.Goals as goal

pub loop-member-preserved : goal.loop-member-preserved
loop-member-preserved c = record {
  later = let e = c.loop-member.invariant.later in omega (arith, e);
  into = dated_more c.args.bounds.count c.args.bounds.maxage c.args.bounds.now c.args.first c.args.members.now c.loop-member.member-index c.member-item.result c.args.into.now.items c.loop-member.into.items c.add_one.new.into.items c.member-item.is c.loop-member-test.true c.loop-member.invariant.into
      (subst (λ (j : ℕ). c.add_one.new.into.items ≡ c.loop-member.into.items ++ member_going c.args.bounds.count c.args.bounds.maxage c.args.bounds.now j c.member-item.result) c.loop-member.invariant.later
      (subst (λ (b : Bool). c.add_one.new.into.items ≡ c.loop-member.into.items ++ file_goes c.args.bounds.count c.loop-member.later b c.member-item.result.path) c.is_expired-old.ensures c.in_ok-add_one.ensures));
}
