use Rattle.std.proofs.Common.{◌≡◌, ◌∷◌, length, eq-eqb, arith, rules}
use Rattle.std.specs.Str.{chars}
use Rattle.lr_match.proofs.Counts.{dot_fits, early}
use Rattle.lr_match.proofs.Matching.{same_of}
use Rattle.lr_match.proofs.Signs.{run_text}
use Rattle.lr_match.proofs.Stars.{run_passed, run_put, dot_itself, not_closed, not_classed, begins_shorter}
use Rattle.lr_match.proofs.pattern.matches_dotted.Goals as goal

pub loop-sign-preserved : goal.loop-sign-preserved
loop-sign-preserved g c =
    let text : chars c.loop-sign.asked.now ≡ 42 ∷ chars c.in-Some.behind.now = run_text _ c.in-Some.sign _ c.in-Some.ensures.begins c.in-Run.is in
    let shorter = begins_shorter _ _ _ c.in-Some.ensures.begins in
    let asked_shorter = c.loop-sign.invariant.asked_shorter in
    record {
      asked_text = search rules;
      on = λ m. run_passed _ _ _ text (c.loop-sign.invariant.on m);
      back = λ m. c.loop-sign.invariant.back (run_put _ _ _ text m);
      asked_shorter = omega (arith, shorter, asked_shorter);
      closes = c.in-Some.ensures.closes;
      few = let before = c.loop-sign.invariant.few in let now = c.in-Some.ensures.few (length (chars c.args.pattern.now)) asked_shorter in omega (arith, before, now, shorter);
    }

pub returns-then-c-eq46-clause-matches : goal.returns-then-c-eq46-clause-matches
returns-then-c-eq46-clause-matches g c =
    let both = dot_itself _ c.in-Some.sign c.in-Itself.c _ (chars c.args.rest.now) c.in-Some.ensures.begins c.in-Itself.is in (
      λ t. c.loop-sign.invariant.back (both.1 c.if-c-eq46.true (c.matches_rest.ensures.matches.0 t)),
      λ m. c.matches_rest.ensures.matches.1 (both.0 (c.loop-sign.invariant.on m)).1,
    )

pub returns-then-c-eq46-clause-few : goal.returns-then-c-eq46-clause-few
returns-then-c-eq46-clause-few g c =
    let asked_shorter = c.loop-sign.invariant.asked_shorter in
    dot_fits (length (chars c.args.pattern.now)) (length (chars c.loop-sign.asked.now)) (length (chars c.in-Some.behind.now)) (length (chars c.args.rest.now)) _ _ _ _ _ _ asked_shorter (begins_shorter _ _ _ c.in-Some.ensures.begins) c.loop-sign.invariant.few (c.in-Some.ensures.few (length (chars c.args.pattern.now)) asked_shorter) c.matches_rest.ensures.few

pub returns-else-c-eq46-clause-matches : goal.returns-else-c-eq46-clause-matches
returns-else-c-eq46-clause-matches g c =
    let both = dot_itself _ c.in-Some.sign c.in-Itself.c _ (chars c.args.rest.now) c.in-Some.ensures.begins c.in-Itself.is in (
      λ t. absurd (c.if-c-eq46.false (same_of c.in-Itself.c 46 t)),
      λ m. eq-eqb c.in-Itself.c 46 (both.0 (c.loop-sign.invariant.on m)).0,
    )

pub returns-in-One-clause-matches : goal.returns-in-One-clause-matches
returns-in-One-clause-matches g c = (λ t. absurd (cc), λ m. absurd (not_closed _ c.in-Some.sign _ _ c.in-Some.ensures.begins c.in-One.is (c.loop-sign.invariant.on m)))

pub returns-in-Class-clause-matches : goal.returns-in-Class-clause-matches
returns-in-Class-clause-matches g c = (λ t. absurd (cc), λ m. absurd (not_classed _ c.in-Some.sign _ _ _ c.in-Some.ensures.begins c.in-Class.is (c.loop-sign.invariant.on m)))

pub returns-else-c-eq46-clause-few : goal.returns-else-c-eq46-clause-few
returns-else-c-eq46-clause-few g c =
    let asked_shorter = c.loop-sign.invariant.asked_shorter in
    let before = c.loop-sign.invariant.few in
    let now = c.in-Some.ensures.few (length (chars c.args.pattern.now)) asked_shorter in
    early _ _ _ _ _ _ _ _ _ asked_shorter before now

pub returns-in-One-clause-few : goal.returns-in-One-clause-few
returns-in-One-clause-few g c =
    let asked_shorter = c.loop-sign.invariant.asked_shorter in
    let before = c.loop-sign.invariant.few in
    let now = c.in-Some.ensures.few (length (chars c.args.pattern.now)) asked_shorter in
    early _ _ _ _ _ _ _ _ _ asked_shorter before now

pub returns-in-Class-clause-few : goal.returns-in-Class-clause-few
returns-in-Class-clause-few g c =
    let asked_shorter = c.loop-sign.invariant.asked_shorter in
    let before = c.loop-sign.invariant.few in
    let now = c.in-Some.ensures.few (length (chars c.args.pattern.now)) asked_shorter in
    early _ _ _ _ _ _ _ _ _ asked_shorter before now
