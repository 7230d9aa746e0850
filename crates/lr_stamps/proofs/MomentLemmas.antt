-- The parts of a moment.
use Rattle.std.proofs.Common.{◌≡◌, ℕ, ◌<◌, ◌≤◌, Bool, true, false, cond, ◌||◌, ◌&&◌, arith, ℤ, pos, ◌≤ℤ◌}
use Rattle.std.specs.Prelude.{◌==◌, nat_le}
use Rattle.std.proofs.lemmas.Bool.{leb-true, le-leb, and_parts, and_from}
use Rattle.std.proofs.lemmas.Int.{ints}
use Rattle.jiff_core.specs.Calendar.{days_in_month, is_leap_year}
use Rattle.lr_rules.specs.declared.rule.Field.{Field}
use Rattle.lr_rules.specs.declared.rule.Field.TheVariants as field
use Rattle.lr_rules.specs.declared.stamp_parts.StampParts.{StampParts}
use Rattle.lr_rules.specs.StampParts.{part}
use Rattle.lr_rules.specs.Stamps.{bound}
use Rattle.lr_rules.specs.Moments.{AreOfMoment}

few_days : (y : ℤ) (m : ℕ) → days_in_month y m ≤ 31
few_days y m = go (m == 2) (is_leap_year y) ((m == 4) || (m == 6) || (m == 9) || (m == 11))
  where
    go : (a b c : Bool) → cond a (cond b 29 28) (cond c 30 31) ≤ 31
    go true true c = omega arith
    go true false c = omega arith
    go false b true = omega arith
    go false b false = omega arith

pub small_parts : (p : StampParts) → AreOfMoment p → p.epoch < 1000000000000 → (f : Field) → part p f < bound f
small_parts p a e field.Year = let top : pos p.year ≤ℤ pos 9999 = a.1.0.1 in omega (arith, ints)
small_parts p a e field.Month = let top : p.month ≤ 12 = a.1.1.1 in omega arith
small_parts p a e field.Day = let top : p.day ≤ days_in_month (pos p.year) p.month = a.1.2.1 in let few : days_in_month (pos p.year) p.month ≤ 31 = few_days (pos p.year) p.month in omega arith
small_parts p a e field.Hour = let top : p.hour < 24 = a.2 in omega arith
small_parts p a e field.Minute = let top : p.minute < 60 = a.3 in omega arith
small_parts p a e field.Second = let top : p.second < 60 = a.4 in omega arith
small_parts p a e field.Epoch = e

-- ---- whether parts are those of a moment

abbrev pub is_moment : StampParts → Bool
is_moment p = nat_le 1 p.year && (nat_le p.year 9999 && (nat_le 1 p.month && (nat_le p.month 12 && (nat_le 1 p.day && (nat_le p.day (days_in_month (pos p.year) p.month) && (nat_le p.hour 23 && (nat_le p.minute 59 && nat_le p.second 59)))))))

pub moment_told : (p : StampParts) → is_moment p ≡ true → AreOfMoment p
moment_told p e = (
  (let i : 1 ≤ p.year = leb-true 1 p.year a.0 in omega (arith, ints)),
  (
    (omega (arith, ints), (let i : p.year ≤ 9999 = leb-true p.year 9999 b.0 in omega (arith, ints))),
    (leb-true 1 p.month c.0, leb-true p.month 12 d.0),
    (leb-true 1 p.day f.0, leb-true p.day (days_in_month (pos p.year) p.month) g.0),
  ),
  (let i : p.hour ≤ 23 = leb-true p.hour 23 h.0 in omega arith),
  (let i : p.minute ≤ 59 = leb-true p.minute 59 k.0 in omega arith),
  (let i : p.second ≤ 59 = leb-true p.second 59 k.1 in omega arith),
)
  where
    a : (nat_le 1 p.year ≡ true) × ((nat_le p.year 9999 && (nat_le 1 p.month && (nat_le p.month 12 && (nat_le 1 p.day && (nat_le p.day (days_in_month (pos p.year) p.month) && (nat_le p.hour 23 && (nat_le p.minute 59 && nat_le p.second 59))))))) ≡ true)
    a = and_parts (nat_le 1 p.year) _ e

    b : (nat_le p.year 9999 ≡ true) × ((nat_le 1 p.month && (nat_le p.month 12 && (nat_le 1 p.day && (nat_le p.day (days_in_month (pos p.year) p.month) && (nat_le p.hour 23 && (nat_le p.minute 59 && nat_le p.second 59)))))) ≡ true)
    b = and_parts (nat_le p.year 9999) _ a.1

    c : (nat_le 1 p.month ≡ true) × ((nat_le p.month 12 && (nat_le 1 p.day && (nat_le p.day (days_in_month (pos p.year) p.month) && (nat_le p.hour 23 && (nat_le p.minute 59 && nat_le p.second 59))))) ≡ true)
    c = and_parts (nat_le 1 p.month) _ b.1

    d : (nat_le p.month 12 ≡ true) × ((nat_le 1 p.day && (nat_le p.day (days_in_month (pos p.year) p.month) && (nat_le p.hour 23 && (nat_le p.minute 59 && nat_le p.second 59)))) ≡ true)
    d = and_parts (nat_le p.month 12) _ c.1

    f : (nat_le 1 p.day ≡ true) × ((nat_le p.day (days_in_month (pos p.year) p.month) && (nat_le p.hour 23 && (nat_le p.minute 59 && nat_le p.second 59))) ≡ true)
    f = and_parts (nat_le 1 p.day) _ d.1

    g : (nat_le p.day (days_in_month (pos p.year) p.month) ≡ true) × ((nat_le p.hour 23 && (nat_le p.minute 59 && nat_le p.second 59)) ≡ true)
    g = and_parts (nat_le p.day (days_in_month (pos p.year) p.month)) _ f.1

    h : (nat_le p.hour 23 ≡ true) × ((nat_le p.minute 59 && nat_le p.second 59) ≡ true)
    h = and_parts (nat_le p.hour 23) _ g.1

    k : (nat_le p.minute 59 ≡ true) × (nat_le p.second 59 ≡ true)
    k = and_parts (nat_le p.minute 59) _ h.1

pub moment_tells : (p : StampParts) → AreOfMoment p → is_moment p ≡ true
moment_tells p m =
    let year : pos 1 ≤ℤ pos p.year = m.0 in
    let top : pos p.year ≤ℤ pos 9999 = m.1.0.1 in
    and_from _ _ (le-leb 1 p.year (omega (arith, ints))) (and_from _ _ (le-leb p.year 9999 (omega (arith, ints))) (and_from _ _ (le-leb 1 p.month m.1.1.0) (and_from _ _ (le-leb p.month 12 m.1.1.1) (and_from _ _ (le-leb 1 p.day m.1.2.0)
    (and_from _ _ (le-leb p.day (days_in_month (pos p.year) p.month) m.1.2.1) (and_from _ _ (le-leb p.hour 23 (omega arith)) (and_from _ _ (le-leb p.minute 59 (omega arith)) (le-leb p.second 59 (omega arith)))))))))
