use Rattle.std.proofs.Common.{◌≡◌, ◌∙◌, sym, arith}
use Rattle.std.proofs.lemmas.Fmt.{decimal_injective}
use Rattle.lr_stamps.proofs.serial.serial_of.Goals.{else-number-gt0-via-then-number-gt0+else-number-le4294967295, else-number-gt0-via-else-number-gt0}
use Rattle.lr_stamps.proofs.serial.serial_of.Goals as goal

pub returns-else-number-gt0-clause-none : goal.returns-else-number-gt0-clause-none
returns-else-number-gt0-clause-none c = λ serial above within e.
    let same : c.in_ok-number.number ≡ serial = decimal_injective c.in_ok-number.number serial (omega (arith, c.in_ok-number.ensures.some.0)) (omega (arith, within)) (sym c.in_ok-number.ensures.some.1 ∙ e) in
    elim c.else-number-gt0.branch [ else-number-gt0-via-then-number-gt0+else-number-le4294967295 w ↦ absurd (let h = w.if-number-le4294967295.false in omega (arith, same, within, h)) | else-number-gt0-via-else-number-gt0 w ↦ absurd (let h = w.if-number-gt0.false in omega (arith, same, above, h)) ]
