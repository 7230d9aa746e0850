-- Fields, and the values that stand under them.
use Rattle.std.proofs.Common.{◌≡◌, ℕ, ◌<◌, ◌+◌, ◌/◌, ◌%◌, true, false, List, [], ◌∷◌, ◌++◌, length, refl, sym, ap, ◌∙◌, arith, eqb-true}
use Rattle.std.specs.Prelude.{◌==◌, decimal}
use Rattle.std.proofs.lemmas.List.{length-append}
use Rattle.std.proofs.lemmas.Fmt.{decimal_injective}
use Rattle.lr_rules.specs.declared.rule.Field.{Field}
use Rattle.lr_rules.specs.declared.rule.Field.TheVariants as field
use Rattle.lr_rules.specs.Limits.{rank}
use Rattle.lr_rules.specs.declared.stamp_parts.StampParts.{StampParts}
use Rattle.lr_rules.specs.StampParts.{part, with_part}
use Rattle.lr_rules.specs.Stamps.{two, field_text, bound, same_field}
use Rattle.lr_stamps.specs.Asked.{HasLeft}

-- ---- one field and another

abbrev of_rank : ℕ → Field
of_rank n = elim (n == 0) [ true ↦ field.Year | false ↦ elim (n == 1) [ true ↦ field.Month | false ↦ elim (n == 2) [ true ↦ field.Day | false ↦ elim (n == 3) [ true ↦ field.Hour | false ↦ elim (n == 4) [ true ↦ field.Minute | false ↦ elim (n == 5) [ true ↦ field.Second | false ↦ field.Epoch ] ] ] ] ] ]

ranked : (f : Field) → of_rank (rank f) ≡ f
ranked field.Year = refl
ranked field.Month = refl
ranked field.Day = refl
ranked field.Hour = refl
ranked field.Minute = refl
ranked field.Second = refl
ranked field.Epoch = refl

pub is_same : (f g : Field) → same_field f g ≡ true → f ≡ g
is_same f g e = sym (ranked f) ∙ (ap of_rank (eqb-true (rank f) (rank g) e) ∙ ranked g)

pub itself : (f : Field) → same_field f f ≡ true
itself field.Year = refl
itself field.Month = refl
itself field.Day = refl
itself field.Hour = refl
itself field.Minute = refl
itself field.Second = refl
itself field.Epoch = refl

pub with_same : (p : StampParts) (f : Field) (v : ℕ) → part (with_part p f v) f ≡ v
with_same p field.Year v = refl
with_same p field.Month v = refl
with_same p field.Day v = refl
with_same p field.Hour v = refl
with_same p field.Minute v = refl
with_same p field.Second v = refl
with_same p field.Epoch v = refl

no : true ≡ false → ⊥
no e = cc

pub with_other : (p : StampParts) (f : Field) (v : ℕ) (g : Field) → same_field g f ≡ false → part (with_part p f v) g ≡ part p g
with_other p field.Year v field.Year e = absurd (no e)
with_other p field.Year v _ e = refl
with_other p field.Month v field.Month e = absurd (no e)
with_other p field.Month v _ e = refl
with_other p field.Day v field.Day e = absurd (no e)
with_other p field.Day v _ e = refl
with_other p field.Hour v field.Hour e = absurd (no e)
with_other p field.Hour v _ e = refl
with_other p field.Minute v field.Minute e = absurd (no e)
with_other p field.Minute v _ e = refl
with_other p field.Second v field.Second e = absurd (no e)
with_other p field.Second v _ e = refl
with_other p field.Epoch v field.Epoch e = absurd (no e)
with_other p field.Epoch v _ e = refl

abbrev made : ℕ → ℕ → ℕ → ℕ → ℕ → ℕ → ℕ → StampParts
made year month day hour minute second epoch = record { year = year; month = month; day = day; hour = hour; minute = minute; second = second; epoch = epoch }

pub parts_same : (a b : StampParts) → ((f : Field) → part a f ≡ part b f) → a ≡ b
parts_same a b h =
    ap (λ (n : ℕ). made n a.month a.day a.hour a.minute a.second a.epoch) (h field.Year)
    ∙ (ap (λ (n : ℕ). made b.year n a.day a.hour a.minute a.second a.epoch) (h field.Month)
    ∙ (ap (λ (n : ℕ). made b.year b.month n a.hour a.minute a.second a.epoch) (h field.Day)
    ∙ (ap (λ (n : ℕ). made b.year b.month b.day n a.minute a.second a.epoch) (h field.Hour)
    ∙ (ap (λ (n : ℕ). made b.year b.month b.day b.hour n a.second a.epoch) (h field.Minute)
    ∙ (ap (λ (n : ℕ). made b.year b.month b.day b.hour b.minute n a.epoch) (h field.Second)
    ∙ ap (λ (n : ℕ). made b.year b.month b.day b.hour b.minute b.second n) (h field.Epoch))))))

-- ---- what stands in front of the rest

pub record IsSplit (a b : ℕ) (xs ys : List ℕ) : Type 0 where
  pub value : a ≡ b
  pub rest : xs ≡ ys

tail : (x y : ℕ) (xs ys : List ℕ) → x ∷ xs ≡ y ∷ ys → (x ≡ y) × (xs ≡ ys)
tail x y xs ys e = (cc, cc)

two_split : (a b : ℕ) (xs ys : List ℕ) → two a ++ xs ≡ two b ++ ys → IsSplit a b xs ys
two_split a b xs ys e =
    let p = tail (48 + a / 10) (48 + b / 10) ((48 + a % 10) ∷ xs) ((48 + b % 10) ∷ ys) e in
    let q = tail (48 + a % 10) (48 + b % 10) xs ys p.1 in
    let high : 48 + a / 10 ≡ 48 + b / 10 = p.0 in
    let low : 48 + a % 10 ≡ 48 + b % 10 = q.0 in
    record { value = omega arith; rest = q.1 }

four_split : (a b : ℕ) (xs ys : List ℕ) → field_text field.Year a ++ xs ≡ field_text field.Year b ++ ys → IsSplit a b xs ys
four_split a b xs ys e =
    let p = two_split (a / 100) (b / 100) (two (a % 100) ++ xs) (two (b % 100) ++ ys) e in
    let q = two_split (a % 100) (b % 100) xs ys p.rest in
    let high : a / 100 ≡ b / 100 = p.value in
    let low : a % 100 ≡ b % 100 = q.value in
    record { value = omega arith; rest = q.rest }

-- of two lists that are the same, with rests of the same length
front_same : (us bs xs ys : List ℕ) → length xs ≡ length ys → us ++ xs ≡ bs ++ ys → (us ≡ bs) × (xs ≡ ys)
front_same [] [] xs ys l e = (refl, e)
front_same [] (b ∷ bs) xs ys l e = absurd (let n : length xs ≡ length (b ∷ bs) + length ys = ap length e ∙ length-append (b ∷ bs) ys in omega arith)
front_same (a ∷ us) [] xs ys l e = absurd (let n : length (a ∷ us) + length xs ≡ length ys = sym (length-append (a ∷ us) xs) ∙ ap length e in omega arith)
front_same (a ∷ us) (b ∷ bs) xs ys l e =
    let t = tail a b (us ++ xs) (bs ++ ys) e in
    let r = front_same us bs xs ys l t.1 in
    let one : a ≡ b = t.0 in
    let others : us ≡ bs = r.0 in
    (cc, r.1)

pub text_split : (f : Field) (a b k : ℕ) (xs ys : List ℕ) → a < bound f → b < bound f → HasLeft f k xs → HasLeft f k ys → field_text f a ++ xs ≡ field_text f b ++ ys → IsSplit a b xs ys
text_split field.Year a b k xs ys i j l m e = four_split a b xs ys e
text_split field.Epoch a b k xs ys i j l m e =
    let r = front_same (decimal a) (decimal b) xs ys (l ∙ sym m) e in
    record { value = decimal_injective a b (omega arith) (omega arith) r.0; rest = r.1 }
text_split field.Month a b k xs ys i j l m e = two_split a b xs ys e
text_split field.Day a b k xs ys i j l m e = two_split a b xs ys e
text_split field.Hour a b k xs ys i j l m e = two_split a b xs ys e
text_split field.Minute a b k xs ys i j l m e = two_split a b xs ys e
text_split field.Second a b k xs ys i j l m e = two_split a b xs ys e
