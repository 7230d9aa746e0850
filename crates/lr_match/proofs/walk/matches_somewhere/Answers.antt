use Rattle.std.proofs.Common.{◌≡◌, ◌≤◌, ◌+◌, length, refl, ap, arith, rules}
use Rattle.std.specs.Str.{chars}
use Rattle.lr_rules.specs.Match.{Matches}
use Rattle.lr_match.specs.Reached.{reach_steps}
use Rattle.lr_match.proofs.Counts.{try_fits, tried_stuck, tried_run, tried_last}
use Rattle.lr_match.proofs.Stars.{run_to_run, run_from_run, run_takes, run_took}
use Rattle.lr_match.proofs.walk.matches_somewhere.Goals as goal

pub returns-in-End-clause-matches : goal.returns-in-End-clause-matches
returns-in-End-clause-matches g c = (λ t. c.loop-behind.invariant.back (Matches.run_ends refl c.in-End.ensures.reaches), λ m. refl)

pub returns-in-End-clause-few : goal.returns-in-End-clause-few
returns-in-End-clause-few g c = λ m le.
    let asked_shorter = c.loop-behind.invariant.asked_shorter in
    let shorter : length (chars c.loop-behind.asked.now) ≤ m = omega (arith, asked_shorter, le) in
    let last = tried_last (reach_steps m) _ _ _ (length (chars c.loop-behind.asked.now)) _ _ (length (chars c.loop-behind.left.now)) (length (chars c.args.name.now)) (c.loop-behind.invariant.few m le) (c.in-End.ensures.few m shorter) (try_fits (length (chars c.loop-behind.asked.now)) m c.loop-behind.closing shorter) in
    omega (arith, last)

pub loop-behind-preserved-in-Run : goal.loop-behind-preserved-in-Run
loop-behind-preserved-in-Run g c =
    let asked_shorter = c.loop-behind.invariant.asked_shorter in
    let reaches = c.in-Run.ensures.reaches in
    let behind_shorter = reaches.1 in
    record {
      asked_text = search rules;
      left_text = search rules;
      on = λ m. run_to_run _ _ _ _ reaches.0 (c.loop-behind.invariant.on m);
      back = λ m. c.loop-behind.invariant.back (run_from_run _ _ _ _ reaches.0 m);
      asked_shorter = omega (arith, asked_shorter, behind_shorter);
      closes = c.in-Run.ensures.closes;
      few = λ m le. tried_run (reach_steps m) _ _ _ (length (chars c.loop-behind.asked.now)) _ _ _ (length (chars c.loop-behind.left.now)) _ (c.loop-behind.invariant.few m le) (c.in-Run.ensures.few m (omega (arith, asked_shorter, le))) reaches.1 reaches.2;
    }

pub loop-behind-preserved : goal.loop-behind-preserved
loop-behind-preserved g c =
    let asked_shorter = c.loop-behind.invariant.asked_shorter in
    record {
      asked_text = search rules;
      left_text = search rules;
      on = λ m. run_takes _ _ _ _ c.in-Some.ensures.first c.in-Stuck.ensures.reaches (c.loop-behind.invariant.on m);
      back = λ m. c.loop-behind.invariant.back (run_took _ _ _ _ c.in-Some.ensures.first m);
      asked_shorter = asked_shorter;
      closes = c.loop-behind.invariant.closes;
      few = λ m le.
          let shorter : length (chars c.loop-behind.asked.now) ≤ m = omega (arith, asked_shorter, le) in
          let left = ap length c.in-Some.ensures.first in
          let more : length (chars c.loop-behind.left.now) ≡ length (chars c.in-Some.rest.now) + 1 = omega (arith, left) in
          let reached = c.in-Stuck.ensures.few m shorter in
          tried_stuck (reach_steps m) _ _ c.reach.new.steps _ (length (chars c.loop-behind.asked.now)) _ (length (chars c.loop-behind.left.now)) (length (chars c.in-Some.rest.now)) (c.loop-behind.invariant.few m le) (omega (arith, reached)) c.in-Some.ensures.counted (try_fits (length (chars c.loop-behind.asked.now)) m c.loop-behind.closing shorter) more;
    }
