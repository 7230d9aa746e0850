-- A moment has one stamp.
use Rattle.std.proofs.Common.{◌≡◌, ◌⊎◌, inl, inr, ℕ, ◌<◌, ◌≤◌, ◌+◌, ◌*◌, Bool, true, false, cond, refl, sym, ◌∙◌, ap, subst, arith, Some, List, ◌++◌, ℤ, pos, ◌+ℤ◌, ◌*ℤ◌}
use Rattle.std.proofs.lemmas.Bool.{cases_lt}
use Rattle.std.proofs.lemmas.Int.{ints}
use borrow.Author.Differences.{up, down}
use Rattle.std.proofs.lemmas.Option.{same_Some}
use Rattle.jiff_core.specs.Calendar.{IsCivilDate, days_from_civil, day_count}
use Rattle.jiff_core.proofs.CalendarLemmas.{days_from_civil-day_count, day_count-lt_year, day_count-lt_month, day_count-day}
use Rattle.lr_rules.specs.declared.path.Path.{Path}
use Rattle.lr_rules.specs.declared.stamp_parts.StampParts.{StampParts}
use Rattle.lr_rules.specs.declared.rule.Field.{Field}
use Rattle.lr_rules.specs.declared.rule.Field.TheVariants as field
use Rattle.lr_rules.specs.declared.rule.Format.{Format}
use Rattle.lr_rules.specs.declared.rule.Naming.{Naming}
use Rattle.lr_rules.specs.Limits.{is_format}
use Rattle.lr_rules.specs.Path.{joined}
use Rattle.lr_rules.specs.StampParts.{part}
use Rattle.lr_rules.specs.Stamps.{stamp_text, is_in}
use Rattle.lr_rules.specs.Moments.{AreOfMoment, parts_seconds, seconds_by, IsStamp}
use Rattle.lr_rules.specs.Dated.{serial_text, IsNumberedStamp, IsDatedAt}
use Rattle.lr_stamps.proofs.Fields.{parts_same}
use Rattle.lr_stamps.proofs.Formats.{epoch_alone}

-- ---- days

count_same : (y y₂ : ℤ) (m d m₂ d₂ : ℕ) → days_from_civil y m d ≡ days_from_civil y₂ m₂ d₂ → day_count y m d ≡ day_count y₂ m₂ d₂
count_same y y₂ m d m₂ d₂ e = omega (arith, days_from_civil-day_count y m d, days_from_civil-day_count y₂ m₂ d₂, ap up e, ap down e)

pub record IsOneDate (y y₂ m m₂ d d₂ : ℕ) : Type 0 where
  pub year : y ≡ y₂
  pub month : m ≡ m₂
  pub day : d ≡ d₂

date_same : (y y₂ m m₂ d d₂ : ℕ) → IsCivilDate (pos y) m d → IsCivilDate (pos y₂) m₂ d₂ → days_from_civil (pos y) m d ≡ days_from_civil (pos y₂) m₂ d₂ → IsOneDate y y₂ m m₂ d d₂
date_same y y₂ m m₂ d d₂ a b e = years (cases_lt y y₂) (cases_lt y₂ y)
  where
    count : day_count (pos y) m d ≡ day_count (pos y₂) m₂ d₂
    count = count_same (pos y) (pos y₂) m d m₂ d₂ e

    days : y ≡ y₂ → m ≡ m₂ → day_count (pos y) m d ≡ day_count (pos y₂) m₂ d₂ → d ≡ d₂
    days f g c =
        let there : day_count (pos y₂) m₂ d₂ ≡ day_count (pos y) m d₂ = ap (λ (k : ℕ). day_count (pos k) m₂ d₂) (sym f) ∙ ap (λ (k : ℕ). day_count (pos y) k d₂) (sym g) in
        let low : 1 ≤ d = a.2.0 in
        let low₂ : 1 ≤ d₂ = b.2.0 in
        omega (arith, day_count-day (pos y) m d d₂ low low₂, there, c)

    months : y ≡ y₂ → (m < m₂) ⊎ (m₂ ≤ m) → (m₂ < m) ⊎ (m ≤ m₂) → IsOneDate y y₂ m m₂ d d₂
    months f (inl lt) other = absurd (let j : day_count (pos y) m d < day_count (pos y) m₂ d₂ = day_count-lt_month (pos y) m d m₂ d₂ a b.2.0 lt in let there : day_count (pos y₂) m₂ d₂ ≡ day_count (pos y) m₂ d₂ = ap (λ (k : ℕ). day_count (pos k) m₂ d₂) (sym f) in omega (arith, count))
    months f (inr ge) (inl lt) = absurd (let j : day_count (pos y₂) m₂ d₂ < day_count (pos y₂) m d = day_count-lt_month (pos y₂) m₂ d₂ m d b a.2.0 lt in let there : day_count (pos y) m d ≡ day_count (pos y₂) m d = ap (λ (k : ℕ). day_count (pos k) m d) f in omega (arith, count))
    months f (inr ge) (inr le) = let g : m ≡ m₂ = omega arith in record { year = f; month = g; day = days f g count }

    years : (y < y₂) ⊎ (y₂ ≤ y) → (y₂ < y) ⊎ (y ≤ y₂) → IsOneDate y y₂ m m₂ d d₂
    years (inl lt) other = absurd (let j : day_count (pos y) m d < day_count (pos y₂) m₂ d₂ = day_count-lt_year (pos y) m d (pos y₂) m₂ d₂ a b.2.0 (omega (arith, ints)) in omega (arith, count))
    years (inr ge) (inl lt) = absurd (let j : day_count (pos y₂) m₂ d₂ < day_count (pos y) m d = day_count-lt_year (pos y₂) m₂ d₂ (pos y) m d b a.2.0 (omega (arith, ints)) in omega (arith, count))
    years (inr ge) (inr le) = months (omega arith) (cases_lt m m₂) (cases_lt m₂ m)

-- ---- seconds

pub record IsOneTime (a b : ℤ) (s t : ℕ) : Type 0 where
  pub days : a ≡ b
  pub rest : s ≡ t

time_same : (a b : ℤ) (s t : ℕ) → s < 86400 → t < 86400 → a *ℤ pos 86400 +ℤ pos s ≡ b *ℤ pos 86400 +ℤ pos t → IsOneTime a b s t
time_same a b s t i j e = record { days = omega (arith, ints, e); rest = omega (arith, ints, e) }

-- ---- parts

civil_same : (q r : StampParts) → AreOfMoment q → AreOfMoment r → parts_seconds q ≡ parts_seconds r → (f : Field) → (f ≡ field.Epoch → ⊥) → part q f ≡ part r f
civil_same q r a b e f n = by f n
  where
    early : (p : StampParts) → AreOfMoment p → p.hour * 3600 + p.minute * 60 + p.second < 86400
    early p m = let h : p.hour < 24 = m.2 in let i : p.minute < 60 = m.3 in let s : p.second < 60 = m.4 in omega arith

    time : IsOneTime (days_from_civil (pos q.year) q.month q.day) (days_from_civil (pos r.year) r.month r.day) (q.hour * 3600 + q.minute * 60 + q.second) (r.hour * 3600 + r.minute * 60 + r.second)
    time = time_same (days_from_civil (pos q.year) q.month q.day) (days_from_civil (pos r.year) r.month r.day) (q.hour * 3600 + q.minute * 60 + q.second) (r.hour * 3600 + r.minute * 60 + r.second) (early q a) (early r b) e

    date : IsOneDate q.year r.year q.month r.month q.day r.day
    date = date_same q.year r.year q.month r.month q.day r.day a.1 b.1 time.days

    rest : q.hour * 3600 + q.minute * 60 + q.second ≡ r.hour * 3600 + r.minute * 60 + r.second
    rest = time.rest

    by : (f : Field) → (f ≡ field.Epoch → ⊥) → part q f ≡ part r f
    by field.Year n = date.year
    by field.Month n = date.month
    by field.Day n = date.day
    by field.Hour n = let i : q.minute < 60 = a.3 in let s : q.second < 60 = a.4 in let i₂ : r.minute < 60 = b.3 in let s₂ : r.second < 60 = b.4 in omega (arith, rest)
    by field.Minute n = let i : q.minute < 60 = a.3 in let s : q.second < 60 = a.4 in let i₂ : r.minute < 60 = b.3 in let s₂ : r.second < 60 = b.4 in omega (arith, rest)
    by field.Second n = let i : q.minute < 60 = a.3 in let s : q.second < 60 = a.4 in let i₂ : r.minute < 60 = b.3 in let s₂ : r.second < 60 = b.4 in omega (arith, rest)
    by field.Epoch n = absurd (n refl)

pos_same : (a b : ℕ) → pos a ≡ pos b → a ≡ b
pos_same a b e = cc

-- the values of two stamps of one moment are the same
parts_of_one : (f : Format) → is_format f ≡ true → (t : ℤ) (w v : List ℕ) (a : IsStamp f.pieces t w) (b : IsStamp f.pieces t v) → a.parts ≡ b.parts
parts_of_one f e t w v a b = go (is_in field.Epoch f.pieces) refl
  where
    same : seconds_by f.pieces a.parts ≡ seconds_by f.pieces b.parts
    same = sym a.is ∙ b.is

    lacks : (g : Field) → is_in g f.pieces ≡ false → part a.parts g ≡ part b.parts g
    lacks g o = a.reading.rest g o ∙ sym (b.reading.rest g o)

    civil : is_in field.Epoch f.pieces ≡ false → parts_seconds a.parts ≡ parts_seconds b.parts
    civil o = subst (λ (k : Bool). cond k (pos a.parts.epoch) (parts_seconds a.parts) ≡ cond k (pos b.parts.epoch) (parts_seconds b.parts)) o same

    date : is_in field.Epoch f.pieces ≡ false → (g : Field) → part a.parts g ≡ part b.parts g
    date o field.Epoch = lacks field.Epoch o
    date o field.Year = civil_same a.parts b.parts a.moment b.moment (civil o) field.Year (λ i. cc)
    date o field.Month = civil_same a.parts b.parts a.moment b.moment (civil o) field.Month (λ i. cc)
    date o field.Day = civil_same a.parts b.parts a.moment b.moment (civil o) field.Day (λ i. cc)
    date o field.Hour = civil_same a.parts b.parts a.moment b.moment (civil o) field.Hour (λ i. cc)
    date o field.Minute = civil_same a.parts b.parts a.moment b.moment (civil o) field.Minute (λ i. cc)
    date o field.Second = civil_same a.parts b.parts a.moment b.moment (civil o) field.Second (λ i. cc)

    count : is_in field.Epoch f.pieces ≡ true → (g : Field) → part a.parts g ≡ part b.parts g
    count o field.Epoch = pos_same a.parts.epoch b.parts.epoch (subst (λ (k : Bool). cond k (pos a.parts.epoch) (parts_seconds a.parts) ≡ cond k (pos b.parts.epoch) (parts_seconds b.parts)) o same)
    count o field.Year = lacks field.Year (epoch_alone f e o field.Year (λ i. cc))
    count o field.Month = lacks field.Month (epoch_alone f e o field.Month (λ i. cc))
    count o field.Day = lacks field.Day (epoch_alone f e o field.Day (λ i. cc))
    count o field.Hour = lacks field.Hour (epoch_alone f e o field.Hour (λ i. cc))
    count o field.Minute = lacks field.Minute (epoch_alone f e o field.Minute (λ i. cc))
    count o field.Second = lacks field.Second (epoch_alone f e o field.Second (λ i. cc))

    go : (k : Bool) → is_in field.Epoch f.pieces ≡ k → a.parts ≡ b.parts
    go true o = parts_same a.parts b.parts (count o)
    go false o = parts_same a.parts b.parts (date o)

-- a moment has one stamp
pub stamp_same : (f : Format) → is_format f ≡ true → (t : ℤ) (w v : List ℕ) → IsStamp f.pieces t w → IsStamp f.pieces t v → w ≡ v
stamp_same f e t w v a b = a.reading.text ∙ (ap (λ (p : StampParts). stamp_text p f.pieces) (parts_of_one f e t w v a b) ∙ sym b.reading.text)

-- and with each serial number one member
pub member_same : (n : Naming) (f : Format) (t : ℤ) (k : ℕ) (x y : Path) → n.dated ≡ Some f → is_format f ≡ true → IsDatedAt n t k x → IsDatedAt n t k y → x ≡ y
member_same n f t k x y d e a b = a.named ∙ (ap (λ (w : List ℕ). joined n.dir (n.base ++ w ++ n.ext)) middles ∙ sym b.named)
  where
    one : IsNumberedStamp f t k a.middle
    one = subst (λ (g : Format). IsNumberedStamp g t k a.middle) (same_Some a.format f (sym a.dated ∙ d)) a.is

    two : IsNumberedStamp f t k b.middle
    two = subst (λ (g : Format). IsNumberedStamp g t k b.middle) (same_Some b.format f (sym b.dated ∙ d)) b.is

    middles : a.middle ≡ b.middle
    middles = one.text ∙ (ap (λ (w : List ℕ). w ++ serial_text k) (stamp_same f e t one.stamp two.stamp one.is two.is) ∙ sym two.text)
