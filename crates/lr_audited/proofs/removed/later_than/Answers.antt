use Rattle.std.proofs.Common.{◌≡◌, ◌++◌, ℕ, take, drop, ◌+◌, sym, ◌∙◌, subst, true, false, int_lt, rules, arith}
use Rattle.lr_family.specs.Stands.{key_in}
use Rattle.lr_audited.specs.Removed.{dated_going, going_with}
use Rattle.lr_audited.proofs.Going.{parts_more, parts_here, parts_end}
use Rattle.lr_audited.proofs.removed.later_than.Goals as goal

pub loop-member-preserved : goal.loop-member-preserved
loop-member-preserved c = let kept : c.is_later.result ≡ true = search rules in let later : int_lt (key_in c.args.place) (key_in c.member-item.result.place) ≡ true = sym c.is_later.ensures ∙ kept in record {
  later = let e = c.loop-member.invariant.later in omega (arith, e);
  parts = λ d maxage now log. parts_more d maxage now (key_in c.args.place) log c.args.members.now c.loop-member.member-index c.member-item.result c.member-item.is c.loop-member-test.true later (c.loop-member.invariant.parts d maxage now log);
}

pub returns-then-not-is_later-clause-parts : goal.returns-then-not-is_later-clause-parts
returns-then-not-is_later-clause-parts c = let other : c.is_later.result ≡ false = search rules in λ d maxage now log.
    subst (λ (i : ℕ). going_with d maxage now (key_in c.args.place) log 0 c.args.members.now ≡ dated_going d maxage now 0 (take i c.args.members.now) ++ (log i ++ dated_going d maxage now (i + 1) (drop i c.args.members.now))) (sym c.loop-member.invariant.later)
    (parts_here d maxage now (key_in c.args.place) log c.args.members.now c.loop-member.member-index c.member-item.result c.member-item.is c.loop-member-test.true (sym c.is_later.ensures ∙ other) (c.loop-member.invariant.parts d maxage now log))

pub returns-clause-parts : goal.returns-clause-parts
returns-clause-parts c = λ d maxage now log.
    subst (λ (i : ℕ). going_with d maxage now (key_in c.args.place) log 0 c.args.members.now ≡ dated_going d maxage now 0 (take i c.args.members.now) ++ (log i ++ dated_going d maxage now (i + 1) (drop i c.args.members.now))) (sym c.loop-member.invariant.later)
    (parts_end d maxage now (key_in c.args.place) log c.args.members.now c.loop-member.member-index c.loop-member-test.false (c.loop-member.invariant.parts d maxage now log))
