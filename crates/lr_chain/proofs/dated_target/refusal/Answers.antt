use Rattle.std.proofs.Common.{◌≡◌, ◌∷◌, [], ℤ, subst, w64}
use Rattle.std.proofs.lemmas.Int.{to_z-of_z}
use Rattle.lr_chain.specs.Hindrances.{fault_at, too_high, taken_fault}
use Rattle.lr_chain.proofs.Hindering.{high_told, none_high, taken_told, none_taken}
use Rattle.lr_chain.proofs.dated_target.refusal.Goals as goal

pub returns-in-Some : goal.returns-in-Some
returns-in-Some c =
    high_told c.args.format.now c.args.seconds c.args.members.now c.too_high.result c.in-Some.path.now c.if-format.true
    (subst (λ (t : ℤ). fault_at too_high t 4294967295 c.args.members.now ≡ too_high c.in-Some.path.now ∷ []) (to_z-of_z w64 c.args.seconds c.ranges.seconds) (c.in-Some.ensures too_high)) c.too_high.ensures

pub returns-in-None : goal.returns-in-None
returns-in-None c =
    none_high c.args.format.now c.args.seconds c.args.members.now c.if-format.true
    (subst (λ (t : ℤ). fault_at too_high t 4294967295 c.args.members.now ≡ []) (to_z-of_z w64 c.args.seconds c.ranges.seconds) (c.in-None.ensures too_high))

pub returns-in-Some-member_at : goal.returns-in-Some-member_at
returns-in-Some-member_at c =
    taken_told c.args.format.now c.args.seconds c.args.members.now c.taken.result c.in-Some-member_at.path.now c.if-format.false
    (subst (λ (t : ℤ). fault_at taken_fault t 0 c.args.members.now ≡ taken_fault c.in-Some-member_at.path.now ∷ []) (to_z-of_z w64 c.args.seconds c.ranges.seconds) (c.in-Some-member_at.ensures taken_fault)) c.taken.ensures

pub returns-in-None-member_at : goal.returns-in-None-member_at
returns-in-None-member_at c =
    none_taken c.args.format.now c.args.seconds c.args.members.now c.if-format.false
    (subst (λ (t : ℤ). fault_at taken_fault t 0 c.args.members.now ≡ []) (to_z-of_z w64 c.args.seconds c.ranges.seconds) (c.in-None-member_at.ensures taken_fault))
