use Rattle.std.proofs.Common.{◌≡◌, ◌∙◌, sym, arith}
use Rattle.std.proofs.lemmas.Fmt.{decimal_injective}
use Rattle.lr_family.proofs.number.small_number.Goals as goal

pub returns-else-number-le4294967295-clause-none : goal.returns-else-number-le4294967295-clause-none
returns-else-number-le4294967295-clause-none c = λ number within e.
    let same : c.in_ok-number.number ≡ number = decimal_injective c.in_ok-number.number number (omega (arith, c.in_ok-number.ensures.some.0)) (omega (arith, within)) (sym c.in_ok-number.ensures.some.1 ∙ e) in
    let h = c.if-number-le4294967295.false in
    absurd (omega (arith, same, within, h))
