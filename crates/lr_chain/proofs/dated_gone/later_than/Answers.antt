use Rattle.std.proofs.Common.{◌≡◌, ℕ, ℤ, ◌++◌, ◌∷◌, map, take, drop, sym, ◌∙◌, subst, false, int_lt, rules, FitsSigned, w64}
use Rattle.std.proofs.lemmas.Int.{to_z-of_z}
use Rattle.lr_rules.specs.Dated.{stamp_key}
use Rattle.lr_family.specs.Stands.{key_in}
use Rattle.lr_chain.specs.DatedReady.{ranked, renamed, all_of}
use Rattle.lr_chain.proofs.Removed.{placed_here, placed_last}
use Rattle.lr_chain.proofs.dated_gone.later_than.Goals as goal

pub returns-then-not-is_later-clause-place : goal.returns-then-not-is_later-clause-place
returns-then-not-is_later-clause-place c = λ maxage now.
    let fits : FitsSigned w64 c.args.target.now.seconds = search rules in
    let no : c.is_later.result ≡ false = search rules in
    subst (λ (i : ℕ). all_of maxage now c.args.target.now.seconds c.args.target.now.serial c.args.target.now.path c.args.members.now ≡ map (ranked maxage now) (take i c.args.members.now) ++ renamed c.args.target.now.seconds c.args.target.now.serial c.args.target.now.path ∷ map (ranked maxage now) (drop i c.args.members.now)) (sym c.loop-member.invariant.count)
    (placed_here maxage now c.args.target.now.seconds c.args.target.now.serial c.args.target.now.path c.args.members.now c.loop-member.member-index c.member-item.result c.loop-member.invariant.all c.member-item.is c.loop-member-test.true (subst (λ (t : ℤ). int_lt (stamp_key t c.args.target.now.serial) (key_in c.member-item.result.place) ≡ false) (to_z-of_z w64 c.args.target.now.seconds fits) (sym c.is_later.ensures ∙ no)))

pub returns-clause-place : goal.returns-clause-place
returns-clause-place c = λ maxage now.
    subst (λ (i : ℕ). all_of maxage now c.args.target.now.seconds c.args.target.now.serial c.args.target.now.path c.args.members.now ≡ map (ranked maxage now) (take i c.args.members.now) ++ renamed c.args.target.now.seconds c.args.target.now.serial c.args.target.now.path ∷ map (ranked maxage now) (drop i c.args.members.now)) (sym c.loop-member.invariant.count)
    (placed_last maxage now c.args.target.now.seconds c.args.target.now.serial c.args.target.now.path c.args.members.now c.loop-member.member-index c.loop-member.invariant.all c.loop-member-test.false)
