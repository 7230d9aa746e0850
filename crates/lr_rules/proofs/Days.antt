-- The day numbers of civil moments.
use Rattle.std.proofs.Common.{arith}
use Rattle.jiff_core.proofs.CalendarLemmas.{day_count_bounds, days_from_civil-day_count}
use Rattle.jiff_core.proofs.SignedLemmas.{signed_arith}
use Rattle.jiff_core.specs.Calendar.{IsEpochDay, days_from_civil}
use Rattle.lr_rules.specs.declared.civil.Civil.{Civil}

pub day-in : (c : Civil) → IsEpochDay (days_from_civil c.year c.month c.day)
day-in c =
    let date = c.valid.1 in
    omega (arith, signed_arith, days_from_civil-day_count, day_count_bounds _ _ _ date)
