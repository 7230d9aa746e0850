-- What is given of a zone has one clock at each second.
use Rattle.std.proofs.Common.{◌≡◌, ◌<◌, ◌+◌, ◌*◌, ℕ, ℤ, pos, ◌+ℤ◌, ◌-ℤ◌, sym, ap, ◌∙◌, subst, arith}
use Rattle.std.proofs.Props.{props}
use Rattle.std.proofs.lemmas.Int.{ints}
use Rattle.jiff_core.specs.Calendar.{IsBetween, days_from_civil}
use Rattle.jiff_core.specs.Timestamp.{nanos_of_seconds}
use Rattle.jiff_core.specs.declared.civil.date.Date.{Date}
use Rattle.jiff_core.proofs.DateLemmas.{epoch_day_injective}
use Rattle.jiff_tz.specs.declared.timezone.TimeZone.{TimeZone}
use Rattle.lr_rules.specs.declared.civil.Civil.{Civil}
use Rattle.lr_rules.specs.declared.civil.Moment.{Moment}
use Rattle.lr_rules.specs.declared.clock.Clock.{Clock}
use Rattle.lr_rules.specs.Between.{civil_seconds}
use Rattle.lr_due.specs.declared.zone.ZoneText.{ZoneText}
use Rattle.lr_due.specs.Zone.{IsZoneOf, ShowsAt, IsDayBefore, IsClockIn}
use Rattle.lr_state.proofs.Lines.{valid-same, make, IsValid, Fields}
use Rattle.lr_laws_fixed.proofs.Zones.{offsets_same}

-- ---- civil moments

-- those of this one
abbrev fields_of : Civil → Fields
fields_of c = (c.year, c.month, c.day, c.hour, c.minute, c.second)

-- moments with the same parts are one
parts_same : (a b : Civil) → fields_of a ≡ fields_of b → a ≡ b
parts_same a b e = go (fields_of a) (fields_of b) e a.valid b.valid
  where
    go : (f g : Fields) → f ≡ g → (v : IsValid f) (w : IsValid g) → make f v ≡ make g w
    go f g h v = subst (λ (k : Fields). (u : IsValid k) → make f v ≡ make k u) h (λ u. ap (make f) (valid-same f v u))

-- the day of a moment
abbrev date_of : Civil → Date
date_of c = record { year = c.year; month = c.month; day = c.day; year_in = c.valid.1.0; month_in = c.valid.1.1; day_in = c.valid.1.2 }

-- the second of its day
abbrev second_of : Civil → ℕ
second_of c = c.hour * 3600 + c.minute * 60 + c.second

-- a day has no more than these
early : (c : Civil) → second_of c < 86400
early c = let h : c.hour < 24 = c.valid.2 in let i : c.minute < 60 = c.valid.3 in let s : c.second < 60 = c.valid.4 in omega arith

-- the same time of the same day
same_time : (a b : Civil) → days_from_civil a.year a.month a.day ≡ days_from_civil b.year b.month b.day → a.hour ≡ b.hour → a.minute ≡ b.minute → a.second ≡ b.second → a ≡ b
same_time a b days hour minute second = let day = epoch_day_injective (date_of a) (date_of b) days in parts_same a b (cc (day.0, day.1, day.2, hour, minute, second))

-- two moments with the same civil seconds are one
civil_one : (a b : Civil) → civil_seconds a ≡ civil_seconds b → a ≡ b
civil_one a b e = same_time a b days (omega (arith, rest)) (omega (arith, rest)) (omega (arith, rest))
  where
    low_a : second_of a < 86400
    low_a = early a

    low_b : second_of b < 86400
    low_b = early b

    days : days_from_civil a.year a.month a.day ≡ days_from_civil b.year b.month b.day
    days = omega (arith, ints, e)

    rest : second_of a ≡ second_of b
    rest = omega (arith, ints, e)

-- ---- moments and clocks

-- the moment of these seconds that a clock shows so
abbrev moment : ℤ → Civil → Moment
moment seconds civil = record { seconds = seconds; civil = civil }

-- two that agree in both are one
moment_one : (a b : Moment) → a.seconds ≡ b.seconds → a.civil ≡ b.civil → a ≡ b
moment_one a b s c = ap (λ (z : ℤ). moment z a.civil) s ∙ ap (moment b.seconds) c

-- the three moments of a clock
abbrev Three : Type 0
Three = Moment × Moment × Moment

-- each lies where clocks tell of it
abbrev AreIn : Three → Type 0
AreIn m = IsBetween (pos 0) (pos 250_000_000_000) m.0.seconds × IsBetween (pos 0) (pos 250_000_000_000) m.1.seconds × IsBetween (pos 0) (pos 250_000_000_000) m.2.seconds

-- the clock with these
abbrev with_moments : (m : Three) → AreIn m → Clock
with_moments m i = record { now = m.0; yesterday = m.1; hour_ago = m.2; now_in = i.0; yesterday_in = i.1; hour_ago_in = i.2 }

-- that they lie so is known in one way alone
in_same : (m : Three) (i j : AreIn m) → i ≡ j
in_same m i j = let prop : IsProp (AreIn m) = hlevel props in prop i j

-- those of this clock
abbrev three_of : Clock → Three
three_of c = (c.now, c.yesterday, c.hour_ago)

-- clocks with the same moments are one
moments_same : (a b : Clock) → three_of a ≡ three_of b → a ≡ b
moments_same a b e = go (three_of a) (three_of b) e (a.now_in, a.yesterday_in, a.hour_ago_in) (b.now_in, b.yesterday_in, b.hour_ago_in)
  where
    go : (m n : Three) → m ≡ n → (i : AreIn m) (j : AreIn n) → with_moments m i ≡ with_moments n j
    go m n h i = subst (λ (k : Three). (j : AreIn k) → with_moments m i ≡ with_moments k j) h (λ j. ap (with_moments m) (in_same m i j))

-- what a clock shows at a second in two zones that were given the same is one
shown_same : (text : ZoneText) (tz other : TimeZone) (seconds : ℤ) (a b : Civil) → IsZoneOf text tz → IsZoneOf text other → ShowsAt tz seconds a → ShowsAt other seconds b → a ≡ b
shown_same text tz other seconds a b z y s t = civil_one a b (s ∙ (ap (λ o. seconds +ℤ o) (offsets_same text tz other (nanos_of_seconds seconds) z y) ∙ sym t))

-- so is the day before of one moment
before_same : (c d a b : Civil) → c ≡ d → IsDayBefore c a → IsDayBefore d b → a ≡ b
before_same c d a b e s t = go (subst (λ (x : Civil). IsDayBefore x a) e s)
  where
    go : IsDayBefore d a → a ≡ b
    go r = same_time a b (omega (arith, ints, r.0, t.0)) (r.1.0 ∙ sym t.1.0) (r.1.1 ∙ sym t.1.1) (r.1.2 ∙ sym t.1.2)

-- two clocks at one second, in what was given of a zone, are one
pub one_clock : (text : ZoneText) (seconds : ℤ) (clock other : Clock) → IsClockIn text seconds clock → IsClockIn text seconds other → clock ≡ other
one_clock text seconds clock other a b = moments_same clock other (cc (now, day, hour))
  where
    civil : clock.now.civil ≡ other.now.civil
    civil = shown_same text a.0 b.0 seconds clock.now.civil other.now.civil a.1 b.1 a.2.now b.2.now

    now : clock.now ≡ other.now
    now = moment_one clock.now other.now (a.2.now_seconds ∙ sym b.2.now_seconds) civil

    day : clock.yesterday ≡ other.yesterday
    day = moment_one clock.yesterday other.yesterday (a.2.day_seconds ∙ sym b.2.day_seconds) (before_same clock.now.civil other.now.civil clock.yesterday.civil other.yesterday.civil civil a.2.day b.2.day)

    hour : clock.hour_ago ≡ other.hour_ago
    hour = moment_one clock.hour_ago other.hour_ago (a.2.hour_seconds ∙ sym b.2.hour_seconds) (shown_same text a.0 b.0 (seconds -ℤ pos 3_600) clock.hour_ago.civil other.hour_ago.civil a.1 b.1 a.2.hour b.2.hour)
