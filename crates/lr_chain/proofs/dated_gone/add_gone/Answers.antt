use Rattle.std.proofs.Common.{◌≡◌, ℕ, ◌++◌, ◌∷◌, ◌||◌, Bool, [], cond, subst, arith}
use Rattle.lr_chain.specs.Rotation.{is_expired, is_left}
use Rattle.lr_chain.specs.DatedReady.{plain_removal}
use Rattle.lr_chain.proofs.Removed.{gone_more}
use Rattle.lr_chain.proofs.dated_gone.add_gone.Goals as goal

pub loop-member-preserved : goal.loop-member-preserved
loop-member-preserved c = record {
  later = let e = c.loop-member.invariant.later in omega (arith, e);
  removals = gone_more c.args.kept.count c.args.kept.maxage c.args.kept.now c.args.first c.args.members.now c.loop-member.member-index c.member-item.result c.args.into.now.items c.loop-member.into.items c.add_one.new.into.items c.member-item.is c.loop-member-test.true c.loop-member.invariant.removals
      (subst (λ (j : ℕ). c.add_one.new.into.items ≡ c.loop-member.into.items ++ cond (is_left c.args.kept.count j || is_expired c.args.kept.maxage c.args.kept.now c.member-item.result) (plain_removal c.member-item.result.path ∷ []) []) c.loop-member.invariant.later (subst (λ (b : Bool). c.add_one.new.into.items ≡ c.loop-member.into.items ++ cond b (plain_removal c.member-item.result.path ∷ []) []) c.goes.ensures c.in_ok-add_one.ensures));
}
