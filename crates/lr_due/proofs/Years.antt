-- Years of dates near the epoch, and seconds of datetimes.
use Rattle.std.proofs.Common.{arith, ◌≡◌, ℤ, pos, neg_ℤ, ◌*ℤ◌, ◌≤ℤ◌, refl}
use Rattle.jiff_core.proofs.CalendarLemmas.{day_count-lt_year, day_count-next_year, days_in_year_bounds, day_count-epoch, days_from_civil-day_count}
use Rattle.jiff_core.proofs.DateLemmas.{civil}
use Rattle.jiff_core.proofs.DateTimeLemmas.{civil_nanos-civil_seconds}
use Rattle.jiff_core.proofs.SignedLemmas.{signed_arith}
use Rattle.jiff_core.specs.Date.{epoch_day}
use Rattle.jiff_core.specs.DateTime.{civil_seconds, civil_nanos}
use Rattle.lr_rules.specs.Civil.{moment_seconds}
use Rattle.jiff_core.specs.declared.civil.date.Date.{Date}
use Rattle.jiff_core.specs.declared.civil.datetime.DateTime.{DateTime}

pub year_from : (d : Date) → neg_ℤ (pos 300) ≤ℤ epoch_day d → pos 1 ≤ℤ d.year
year_from d h =
    let lt = day_count-lt_year d.year d.month d.day (pos 1969) 1 1 (civil d) (omega arith) in
    let next = day_count-next_year (pos 1969) (pos 1970) (omega (arith, signed_arith)) refl in
    let b = days_in_year_bounds (pos 1969) in
    let e = day_count-epoch in
    let u = days_from_civil-day_count d.year d.month d.day in
    grind (arith, signed_arith)

pub civil_seconds-of_nanos : (dt : DateTime) (s : ℤ) → civil_nanos dt ≡ s *ℤ pos 1_000_000_000 → civil_seconds dt ≡ s
civil_seconds-of_nanos dt s h =
    let parts = civil_nanos-civil_seconds dt in
    let small = dt.time.subsec_in in
    omega (arith, signed_arith)

pub moment-civil_seconds : (dt : DateTime) → moment_seconds dt.date.year dt.date.month dt.date.day dt.time.hour dt.time.minute dt.time.second ≡ civil_seconds dt
unfolding civil_seconds
moment-civil_seconds dt = refl

-- a datetime near the epoch or after it
pub year_from_nanos : (dt : DateTime) (s : ℤ) → civil_nanos dt ≡ s *ℤ pos 1_000_000_000 → neg_ℤ (pos 200_000) ≤ℤ s → pos 1 ≤ℤ dt.date.year
unfolding civil_seconds
year_from_nanos dt s h low =
    let e : civil_seconds dt ≡ s = civil_seconds-of_nanos dt s h in
    let hours = dt.time.hour_in in
    let minutes = dt.time.minute_in in
    let seconds = dt.time.second_in in
    year_from dt.date (omega (arith, signed_arith))

-- its day is near the epoch too
pub day_from_nanos : (dt : DateTime) (s : ℤ) → civil_nanos dt ≡ s *ℤ pos 1_000_000_000 → neg_ℤ (pos 200_000) ≤ℤ s → neg_ℤ (pos 200) ≤ℤ epoch_day dt.date
unfolding civil_seconds
day_from_nanos dt s h low =
    let e : civil_seconds dt ≡ s = civil_seconds-of_nanos dt s h in
    let hours = dt.time.hour_in in
    let minutes = dt.time.minute_in in
    let seconds = dt.time.second_in in
    omega (arith, signed_arith)
