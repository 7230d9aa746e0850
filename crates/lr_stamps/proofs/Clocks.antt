-- The stamp that a clock gives is one.
use Rattle.std.proofs.Common.{◌≡◌, ℕ, ◌<◌, ◌≤◌, Bool, true, false, cond, ◌||◌, List, [], ◌∷◌, ◌++◌, refl, sym, ap, ◌∙◌, subst, arith, Some, ℤ, pos, negsuc, ◌≤ℤ◌}
use Rattle.std.specs.Prelude.{unsigned_abs, ◌==◌}
use Rattle.std.specs.Int.{IsInRange}
use Rattle.std.proofs.lemmas.Int.{ints}
use Rattle.std.proofs.lemmas.Bool.{or_left, or_right}
use Rattle.jiff_core.specs.Calendar.{IsBetween, days_in_month, is_leap_year}
use Rattle.lr_rules.specs.declared.path.Path.{Path}
use Rattle.lr_rules.specs.declared.civil.Civil.{Civil}
use Rattle.lr_rules.specs.declared.civil.Moment.{Moment}
use Rattle.lr_rules.specs.declared.clock.Clock.{Clock}
use Rattle.lr_rules.specs.declared.rule.Back.{Back}
use Rattle.lr_rules.specs.declared.rule.Back.TheVariants as back
use Rattle.lr_rules.specs.declared.rule.Field.{Field}
use Rattle.lr_rules.specs.declared.rule.Field.TheVariants as field
use Rattle.lr_rules.specs.declared.rule.Format.{Format}
use Rattle.lr_rules.specs.declared.rule.Naming.{Naming}
use Rattle.lr_rules.specs.declared.rule.Piece.{Piece}
use Rattle.lr_rules.specs.declared.rule.Piece.TheVariants as piece
use Rattle.lr_rules.specs.Civil.{IsMoment}
use Rattle.lr_rules.specs.Limits.{is_format}
use Rattle.lr_rules.specs.Path.{joined}
use Rattle.lr_rules.specs.declared.stamp_parts.StampParts.{StampParts}
use Rattle.lr_rules.specs.StampParts.{part, least}
use Rattle.lr_rules.specs.Stamps.{bound, field_text, stamp_text, same_field, is_in}
use Rattle.lr_rules.specs.Moments.{AreOfMoment, seconds_by, IsStamp}
use Rattle.lr_stamps.specs.Clocks.{moment_by, parts_of, kept_part, kept_fields, stamp_of}
use Rattle.lr_rules.specs.Dated.{serial_text, IsSerial, IsDatedAt}
use Rattle.lr_stamps.specs.Dated.{clock_seconds}
use Rattle.lr_stamps.proofs.Fields.{itself}
use Rattle.lr_stamps.proofs.Formats.{with_day}
use Rattle.lr_stamps.proofs.MomentLemmas.{small_parts}

-- ---- what is kept of the parts

kept_is : (pieces : List Piece) (p : StampParts) (f : Field) → part (kept_fields pieces p) f ≡ kept_part pieces p f
kept_is pieces p field.Year = refl
kept_is pieces p field.Month = refl
kept_is pieces p field.Day = refl
kept_is pieces p field.Hour = refl
kept_is pieces p field.Minute = refl
kept_is pieces p field.Second = refl
kept_is pieces p field.Epoch = refl

kept_in : (pieces : List Piece) (p : StampParts) (f : Field) → is_in f pieces ≡ true → part (kept_fields pieces p) f ≡ part p f
kept_in pieces p f e = kept_is pieces p f ∙ ap (λ b. cond b (part p f) (part least f)) e

kept_out : (pieces : List Piece) (p : StampParts) (f : Field) → is_in f pieces ≡ false → part (kept_fields pieces p) f ≡ part least f
kept_out pieces p f e = kept_is pieces p f ∙ ap (λ b. cond b (part p f) (part least f)) e

text_same : (p q : StampParts) (ps : List Piece) → ((f : Field) → is_in f ps ≡ true → part q f ≡ part p f) → stamp_text p ps ≡ stamp_text q ps
text_same p q [] h = refl
text_same p q (piece.Byte b ∷ ps) h = ap (λ w. b ∷ w) (text_same p q ps h)
text_same p q (piece.Field f ∷ ps) h =
    ap (λ n. field_text f n ++ stamp_text p ps) (sym (h f (or_left (same_field f f) (is_in f ps) (itself f))))
    ∙ ap (λ w. field_text f (part q f) ++ w) (text_same p q ps (λ g i. h g (or_right (same_field g f) (is_in g ps) i)))

-- ---- a moment of which fields are left out

some_days : (y : ℤ) (m : ℕ) → 1 ≤ days_in_month y m
some_days y m = go (m == 2) (is_leap_year y) ((m == 4) || (m == 6) || (m == 9) || (m == 11))
  where
    go : (a b c : Bool) → 1 ≤ cond a (cond b 29 28) (cond c 30 31)
    go true true c = omega arith
    go true false c = omega arith
    go false b true = omega arith
    go false b false = omega arith

pick : (P : ℕ → Type 0) (b : Bool) (x z : ℕ) → P x → P z → P (cond b x z)
pick P true x z h k = h
pick P false x z h k = k

kept_day : (y m d : Bool) (year month day : ℕ) → IsInRange 1 (days_in_month (pos year) month) day → (d ≡ true → (m ≡ true) × (y ≡ true)) → IsInRange 1 (days_in_month (pos (cond y year 1970)) (cond m month 1)) (cond d day 1)
kept_day y m false year month day h w = (omega arith, some_days (pos (cond y year 1970)) (cond m month 1))
kept_day y m true year month day h w =
    subst (λ (b : Bool). IsInRange 1 (days_in_month (pos (cond b year 1970)) (cond m month 1)) day) (sym (w refl).1)
    (subst (λ (b : Bool). IsInRange 1 (days_in_month (pos year) (cond b month 1)) day) (sym (w refl).0) h)

kept_moment : (y m d h i s : Bool) (p : StampParts) → AreOfMoment p → (d ≡ true → (m ≡ true) × (y ≡ true))
    → IsMoment (pos (cond y p.year 1970)) (cond m p.month 1) (cond d p.day 1) (cond h p.hour 0) (cond i p.minute 0) (cond s p.second 0)
kept_moment y m d h i s p a w = (
  pick (λ n. pos 1 ≤ℤ pos n) y p.year 1970 a.0 (omega (arith, ints)),
  (
    pick (λ n. (negsuc 9998 ≤ℤ pos n) × (pos n ≤ℤ pos 9999)) y p.year 1970 a.1.0 (omega (arith, ints), omega (arith, ints)),
    pick (λ n. IsInRange 1 12 n) m p.month 1 a.1.1 (omega arith, omega arith),
    kept_day y m d p.year p.month p.day a.1.2 w,
  ),
  pick (λ n. n < 24) h p.hour 0 a.2 (omega arith),
  pick (λ n. n < 60) i p.minute 0 a.3 (omega arith),
  pick (λ n. n < 60) s p.second 0 a.4 (omega arith),
)

-- ---- the parts of a moment

pos_abs : (y : ℤ) → pos 1 ≤ℤ y → pos (unsigned_abs y) ≡ y
pos_abs (pos n) h = refl
pos_abs (negsuc n) h = absurd (omega (arith, ints))

moment_parts : (c : Civil) (seconds : ℤ) → AreOfMoment (parts_of (record { seconds = seconds; civil = c }))
moment_parts c seconds = subst (λ (y : ℤ). IsMoment y c.month c.day c.hour c.minute c.second) (sym (pos_abs c.year c.valid.0)) c.valid

bounded : (b : Back) (clock : Clock) → IsBetween (pos 0) (pos 250000000000) (moment_by b clock).seconds
bounded back.Now clock = clock.now_in
bounded back.Yesterday clock = clock.yesterday_in
bounded back.HourAgo clock = clock.hour_ago_in

abs_small : (z : ℤ) → IsBetween (pos 0) (pos 250000000000) z → unsigned_abs z < 1000000000000
abs_small (pos n) h = omega (arith, ints, h.1)
abs_small (negsuc n) h = absurd (omega (arith, ints, h.0))

-- the parts of a moment that stand in a format are a stamp
parts_stamp : (f : Format) (p : StampParts) → is_format f ≡ true → AreOfMoment p → p.epoch < 1000000000000 → IsStamp f.pieces (seconds_by f.pieces (kept_fields f.pieces p)) (stamp_text p f.pieces)
parts_stamp f p e a low = record {
  parts = kept_fields f.pieces p;
  reading = record {
    text = text_same p (kept_fields f.pieces p) f.pieces (kept_in f.pieces p);
    small = λ g i. subst (λ (n : ℕ). n < bound g) (sym (kept_in f.pieces p g i)) (small_parts p a low g);
    rest = kept_out f.pieces p;
  };
  moment = kept_moment (is_in field.Year f.pieces) (is_in field.Month f.pieces) (is_in field.Day f.pieces) (is_in field.Hour f.pieces) (is_in field.Minute f.pieces) (is_in field.Second f.pieces) p a (with_day f e);
  is = refl;
}

pub clock_stamp : (n : Naming) (f : Format) (clock : Clock) (serial : ℕ) (x : Path) → n.dated ≡ Some f → is_format f ≡ true → IsSerial f serial → x ≡ joined n.dir (n.base ++ (stamp_of f clock ++ serial_text serial) ++ n.ext) → IsDatedAt n (clock_seconds n.dated clock) serial x
clock_stamp n f clock serial x d e s is =
    let m : Moment = moment_by f.back clock in
    subst (λ (t : ℤ). IsDatedAt n t serial x) (sym (ap (λ o. clock_seconds o clock) d))
    (record {
      format = f;
      dated = d;
      middle = stamp_of f clock ++ serial_text serial;
      is = record { stamp = stamp_of f clock; is = parts_stamp f (parts_of m) e (moment_parts m.civil m.seconds) (abs_small m.seconds (bounded f.back clock)); numbered = s; text = refl };
      named = is;
    })
