use Rattle.std.proofs.Common.{arith, ◌≡◌, ◌∙◌, ap, subst, ℤ, pos, w64, to_z, of_z, ◌-ℤ◌}
use Rattle.std.specs.Int.{int_max}
use Rattle.jiff.proofs.SpanFacts.{signed_arith}
use Rattle.jiff.specs.ZoneView.{plain_zone}
use Rattle.lr_due.specs.Zone.{ShowsAt}
use Rattle.lr_due.proofs.zone.clock_at.Goals as goal

pub invariant_of-result : goal.invariant_of-result
invariant_of-result c =
    let range = c.requires in
    let day = c.from_zero-day.ensures.bound in
    let hour = c.from_zero-hour.ensures.bound in
    record {
      now_in = (omega (arith, signed_arith), omega (arith, signed_arith));
      yesterday_in = (omega (arith, signed_arith), omega (arith, signed_arith));
      hour_ago_in = (omega (arith, signed_arith), omega (arith, signed_arith));
    }

pub returns : goal.returns
returns c =
    let range = c.requires in
    let day_bound = c.from_zero-day.ensures.bound in
    let hour_bound = c.from_zero-hour.ensures.bound in
    let own : to_z w64 (of_z w64 c.args.seconds) ≡ c.args.seconds = omega (arith, signed_arith) in
    let less_day : to_z w64 (of_z w64 (to_z w64 (of_z w64 c.args.seconds) -ℤ pos 86_400)) ≡ c.args.seconds -ℤ pos 86_400 = omega (arith, signed_arith) in
    let less_hour : to_z w64 (of_z w64 (to_z w64 (of_z w64 c.args.seconds) -ℤ pos 3600)) ≡ c.args.seconds -ℤ pos 3600 = omega (arith, signed_arith) in
    let day : to_z w64 (of_z w64 c.from_zero-day.result) ≡ c.from_zero-day.result = omega (arith, signed_arith) in
    let hour : to_z w64 (of_z w64 c.from_zero-hour.result) ≡ c.from_zero-hour.result = omega (arith, signed_arith) in
    record {
      now = subst (λ (x : ℤ). ShowsAt (plain_zone c.args.zone) x c.civil_at-civil.result) own c.civil_at-civil.ensures.shown;
      now_seconds = own;
      day = (c.day_before.ensures.date, c.day_before.ensures.time);
      day_seconds = day ∙ c.from_zero-day.ensures.value ∙ ap (int_max (pos 0)) less_day;
      hour = subst (λ (x : ℤ). ShowsAt (plain_zone c.args.zone) x c.civil_at-hour_before.result) less_hour c.civil_at-hour_before.ensures.shown;
      hour_seconds = hour ∙ c.from_zero-hour.ensures.value ∙ ap (int_max (pos 0)) less_hour;
    }
