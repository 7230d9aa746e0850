use Rattle.std.proofs.Common.{◌≡◌, ◌∷◌, ap, sym, ◌∙◌, ◌+◌, length, arith, rules}
use Rattle.std.specs.Str.{chars}
use Rattle.lr_match.specs.Classes.{spare}
use Rattle.lr_match.proofs.Counts.{sign_length}
use Rattle.lr_match.proofs.Signs.{run_text, single_of}
use Rattle.lr_match.proofs.Stars.{leads_on, leads_over, begins_shorter, stuck_short, stuck_other, both_end}
use Rattle.lr_match.proofs.walk.reach.Goals as goal

pub returns-in-Run-clause-reaches : goal.returns-in-Run-clause-reaches
returns-in-Run-clause-reaches g c =
    let text : chars c.loop-sign.asked.now ≡ 42 ∷ chars c.in-Some.behind.now = run_text (chars c.loop-sign.asked.now) c.in-Some.sign (chars c.in-Some.behind.now) c.in-Some.ensures.begins c.in-Run.is in
    let shorter = begins_shorter _ _ _ c.in-Some.ensures.begins in
    let asked_shorter = c.loop-sign.invariant.asked_shorter in
    (leads_over (chars c.args.pattern.now) (chars c.args.name.now) (chars c.loop-sign.asked.now) (chars c.loop-sign.left.now) (chars c.in-Some.behind.now) c.loop-sign.invariant.leads text, omega arith, c.loop-sign.invariant.left_shorter)

pub returns-in-Run-clause-few : goal.returns-in-Run-clause-few
returns-in-Run-clause-few g c = λ m le.
    let shorter = begins_shorter _ _ _ c.in-Some.ensures.begins in
    let asked_shorter = c.loop-sign.invariant.asked_shorter in
    let before = c.loop-sign.invariant.few m le in
    let now = c.in-Some.ensures.few m (omega (arith, asked_shorter, le)) in
    omega (arith, before, now, shorter)

pub returns-in_default-first-clause-reaches : goal.returns-in_default-first-clause-reaches
returns-in_default-first-clause-reaches g c = stuck_short _ _ _ _ c.in-Some.sign _ c.loop-sign.invariant.leads c.in-Some.ensures.begins (single_of c.in-Some.sign c.in_default-sign.not-Run) c.in_default-first.ensures.first

pub returns-in_default-first-clause-few : goal.returns-in_default-first-clause-few
returns-in_default-first-clause-few g c = λ m le.
    let asked_shorter = c.loop-sign.invariant.asked_shorter in
    let before = c.loop-sign.invariant.few m le in
    let now = c.in-Some.ensures.few m (omega (arith, asked_shorter, le)) in
    let one = c.in_default-first.ensures.counted in
    omega (arith, before, now, one)

pub returns-then-not-sign_has-clause-reaches : goal.returns-then-not-sign_has-clause-reaches
returns-then-not-sign_has-clause-reaches g c = stuck_other _ _ _ _ c.in-Some.sign _ c.in-Some-first.c _ c.loop-sign.invariant.leads c.in-Some.ensures.begins (single_of c.in-Some.sign c.in_default-sign.not-Run) c.in-Some-first.ensures.first (sym c.sign_has.ensures.has ∙ c.if-not-sign_has.true)

pub returns-then-not-sign_has-clause-few : goal.returns-then-not-sign_has-clause-few
returns-then-not-sign_has-clause-few g c = λ m le.
    let shorter = begins_shorter _ _ _ c.in-Some.ensures.begins in
    let asked_shorter = c.loop-sign.invariant.asked_shorter in
    let before = c.loop-sign.invariant.few m le in
    let now = c.in-Some.ensures.few m (omega (arith, asked_shorter, le)) in
    let one = c.in-Some-first.ensures.counted in
    let ask = c.sign_has.ensures.few in
    let paid = sign_length _ c.in-Some.sign _ c.in-Some.ensures.begins in
    omega (arith, before, now, one, ask, paid, shorter)

pub loop-sign-smaller : goal.loop-sign-smaller
loop-sign-smaller g c = begins_shorter _ _ _ c.in-Some.ensures.begins

pub loop-sign-preserved : goal.loop-sign-preserved
loop-sign-preserved g c =
    let shorter = begins_shorter _ _ _ c.in-Some.ensures.begins in
    let asked_shorter = c.loop-sign.invariant.asked_shorter in
    let left_shorter = c.loop-sign.invariant.left_shorter in
    let left = ap length c.in-Some-first.ensures.first in
    record {
      asked_text = search rules;
      left_text = search rules;
      leads = leads_on _ _ _ c.in-Some.sign _ c.in-Some-first.c _ _ c.loop-sign.invariant.leads c.in-Some-first.ensures.first c.in-Some.ensures.begins (single_of c.in-Some.sign c.in_default-sign.not-Run) (sym c.sign_has.ensures.has ∙ c.if-not-sign_has.false);
      asked_shorter = omega arith;
      left_shorter = omega arith;
      closes = c.in-Some.ensures.closes;
      few = λ m le.
          let before = c.loop-sign.invariant.few m le in
          let now = c.in-Some.ensures.few m (omega (arith, asked_shorter, le)) in
          let one = c.in-Some-first.ensures.counted in
          let ask = c.sign_has.ensures.few in
          let paid = sign_length _ c.in-Some.sign _ c.in-Some.ensures.begins in
          omega (arith, before, now, one, ask, paid, shorter);
    }

pub returns-in-None-clause-reaches : goal.returns-in-None-clause-reaches
returns-in-None-clause-reaches g c = both_end _ _ _ _ c.loop-sign.invariant.leads c.in_default.ensures.begins c.in-None.ensures.first

pub returns-in-None-clause-few : goal.returns-in-None-clause-few
returns-in-None-clause-few g c = λ m le.
    let before = c.loop-sign.invariant.few m le in
    let now = c.in_default.ensures.few.0 in
    let same = ap (λ b. spare b (m + 2)) c.in_default.ensures.few.1 in
    let one = c.in-None.ensures.counted in
    omega (arith, before, now, same, one)

pub returns-in-Some-first-2-clause-few : goal.returns-in-Some-first-2-clause-few
returns-in-Some-first-2-clause-few g c = λ m le.
    let before = c.loop-sign.invariant.few m le in
    let now = c.in_default.ensures.few.0 in
    let same = ap (λ b. spare b (m + 2)) c.in_default.ensures.few.1 in
    let one = c.in-Some-first-2.ensures.counted in
    omega (arith, before, now, same, one)
