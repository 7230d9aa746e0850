use Rattle.std.proofs.Common.{rules, arith, ◌≡◌, sym, subst, pos, neg_ℤ, ◌≤ℤ◌}
use Rattle.jiff_core.specs.Calendar.{days_from_civil}
use Rattle.jiff_core.specs.Date.{epoch_day}
use Rattle.jiff_core.specs.declared.civil.date.Date.{Date}
use Rattle.jiff.proofs.SpanFacts.{signed_arith}
use Rattle.lr_due.proofs.Years.{year_from}
use Rattle.lr_due.proofs.calendar.day_before.Goals as goal

pub invariant_of-result : goal.invariant_of-result
invariant_of-result c =
    let own : epoch_day c.in-Ok.date ≡ days_from_civil c.args.civil.now.year c.args.civil.now.month c.args.civil.now.day = search rules in
    let low : neg_ℤ (pos 300) ≤ℤ epoch_day c.in-Ok-yesterday.before =
    let e = c.in-Ok-yesterday.ensures.value in
    let r = c.requires in omega (arith, signed_arith) in
    let year : pos 1 ≤ℤ c.to_plain-parts.result.year = year_from c.to_plain-parts.result (subst (λ (d : Date). neg_ℤ (pos 300) ≤ℤ epoch_day d) (sym c.to_plain-parts.ensures) low) in
    search (rules, year)
