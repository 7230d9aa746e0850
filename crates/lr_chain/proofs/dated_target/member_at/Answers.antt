use Rattle.std.proofs.Common.{◌≡◌, ◌∙◌, ◌∷◌, [], ℤ, sym, subst, w64}
use Rattle.std.proofs.lemmas.Int.{to_z-of_z}
use Rattle.lr_chain.specs.Hindrances.{fault_at}
use Rattle.lr_chain.proofs.Hindering.{found, passed, none_found}
use Rattle.lr_chain.proofs.dated_target.member_at.Goals as goal

pub returns-then-is_stamp : goal.returns-then-is_stamp
returns-then-is_stamp c = λ why.
    subst (λ (t : ℤ). fault_at why t c.args.serial c.args.members.now ≡ why c.member-item.result.path ∷ []) (to_z-of_z w64 c.args.seconds c.ranges.seconds)
    (found why _ c.args.serial c.args.members.now c.loop-member.member-index c.member-item.result (c.loop-member.invariant.none why) c.member-item.is c.loop-member-test.true (sym c.is_stamp.ensures ∙ c.if-is_stamp.true))

pub loop-member-preserved : goal.loop-member-preserved
loop-member-preserved c = record {
  none = λ why. passed why _ c.args.serial c.args.members.now c.loop-member.member-index c.member-item.result (c.loop-member.invariant.none why) c.member-item.is c.loop-member-test.true (sym c.is_stamp.ensures ∙ c.if-is_stamp.false);
}

pub returns : goal.returns
returns c = λ why.
    subst (λ (t : ℤ). fault_at why t c.args.serial c.args.members.now ≡ []) (to_z-of_z w64 c.args.seconds c.ranges.seconds)
    (none_found why _ c.args.serial c.args.members.now c.loop-member.member-index (c.loop-member.invariant.none why) c.loop-member-test.false)
