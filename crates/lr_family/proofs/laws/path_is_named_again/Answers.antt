use Rattle.std.proofs.Common.{◌≡◌, ◌+◌, ◌≤◌, ◌<◌, ◌∙◌, Some, Err, ap, arith}
use Rattle.lr_family.specs.declared.place.NameStop.TheVariants as stop
use Rattle.lr_family.proofs.laws.path_is_named_again.Goals as goal

pub returns-in-Err-clause-never_too_high : goal.returns-in-Err-clause-never_too_high
returns-in-Err-clause-never_too_high c = λ e.
    let same : c.in-Err.stop ≡ stop.TooHigh = cc in
    let m = (c.place_of.ensures.numbers c.in-Some-Number.place).0 (c.in-Some-Number.is ∙ ap (λ p. Some p) c.in-Some-Number.field-0-is) in
    let high : 4294967295 < c.args.family.now.naming.start + c.in-Some-Number.place = c.in-Err.ensures.too_high.0 (ap Err same) in
    let low : c.args.family.now.naming.start + c.in-Some-Number.place ≤ 4294967295 = m.1.bound in
    omega (arith, high, low)
