-- The decision from the front is exact.
use Rattle.std.proofs.Common.{◌≡◌, ◌⊎◌, inl, inr, ⊎_elim, ℕ, Bool, true, false, cond, List, [], ◌∷◌, refl, sym, ap, ◌∙◌, subst, arith, eqb-true}
use Rattle.std.specs.Char.{is_ascii_digit}
use Rattle.std.specs.Prelude.{◌==◌}
use Rattle.std.proofs.lemmas.Bool.Decides.{nat_tests}
use Rattle.lr_shapes.specs.declared.token.Token.{Token}
use Rattle.lr_shapes.specs.declared.token.Token.TheVariants.{Byte, Digit, Digits}
use Rattle.lr_shapes.specs.Deciding.{may_be_empty, meet_byte, meet_digit, meet_run, meet}
use Rattle.lr_shapes.specs.Tokens.{RunThen, FitsShape, HaveCommon}

-- ---- from an answer to bytes

-- what a condition says
both : (c r : Bool) → cond c r false ≡ true → (c ≡ true) × (r ≡ true)
both true r e = (refl, e)
both false r e = absurd (cc)

either : (c r : Bool) → cond c true r ≡ true → (c ≡ true) ⊎ (r ≡ true)
either true r e = inl refl
either false r e = inr e

-- a run may end at once
ends_here : (P : List ℕ → Type 0) (w : List ℕ) → P w → RunThen P w
ends_here P [] h = h
ends_here P (c ∷ w) h = inl h

empty_fits : (us : List Token) → may_be_empty us ≡ true → FitsShape us []
empty_fits [] e = tt
empty_fits (Digits ∷ us) e = empty_fits us e
empty_fits (Byte b ∷ us) e = absurd (cc)
empty_fits (Digit ∷ us) e = absurd (cc)

-- some bytes fit both
abbrev Both : (List ℕ → Type 0) → List Token → Type 0
Both P us = (w : List ℕ) × P w × FitsShape us w

abbrev Begins : ℕ → (List ℕ → Type 0) → List ℕ → Type 0
Begins b P [] = ⊥
Begins b P (c ∷ w) = (b ≡ c) × P w

abbrev BeginsDigit : (List ℕ → Type 0) → List ℕ → Type 0
BeginsDigit P [] = ⊥
BeginsDigit P (c ∷ w) = (is_ascii_digit c ≡ true) × P w

zero_digit : is_ascii_digit 48 ≡ true
zero_digit = refl

by_byte : (b : ℕ) (P : List ℕ → Type 0) (rest : List Token → Bool) → ((us : List Token) → rest us ≡ true → Both P us) → (us : List Token) → meet_byte b rest us ≡ true → Both (Begins b P) us
by_byte b P rest h [] e = absurd (cc)
by_byte b P rest h (Byte c ∷ us) e =
    let t = both (b == c) (rest us) e in
    let r = h us t.1 in
    (c ∷ r.0, (eqb-true b c t.0, r.1), (refl, r.2))
by_byte b P rest h (Digit ∷ us) e =
    let t = both (is_ascii_digit b) (rest us) e in
    let r = h us t.1 in
    (b ∷ r.0, (refl, r.1), (t.0, r.2))
by_byte b P rest h (Digits ∷ us) e = ⊎_elim (λ t. first (by_byte b P rest h us t)) second (either (meet_byte b rest us) (cond (is_ascii_digit b) (rest (Digits ∷ us)) false) e)
  where
    first : Both (Begins b P) us → Both (Begins b P) (Digits ∷ us)
    first r = (r.0, r.1, ends_here (FitsShape us) r.0 r.2)

    second : cond (is_ascii_digit b) (rest (Digits ∷ us)) false ≡ true → Both (Begins b P) (Digits ∷ us)
    second t =
        let q = both (is_ascii_digit b) (rest (Digits ∷ us)) t in
        let r = h (Digits ∷ us) q.1 in
        (b ∷ r.0, (refl, r.1), inr (q.0, r.2))

by_digit : (P : List ℕ → Type 0) (rest : List Token → Bool) → ((us : List Token) → rest us ≡ true → Both P us) → (us : List Token) → meet_digit rest us ≡ true → Both (BeginsDigit P) us
by_digit P rest h [] e = absurd (cc)
by_digit P rest h (Byte c ∷ us) e =
    let t = both (is_ascii_digit c) (rest us) e in
    let r = h us t.1 in
    (c ∷ r.0, (t.0, r.1), (refl, r.2))
by_digit P rest h (Digit ∷ us) e = let r = h us e in (48 ∷ r.0, (zero_digit, r.1), (zero_digit, r.2))
by_digit P rest h (Digits ∷ us) e = ⊎_elim (λ t. first (by_digit P rest h us t)) second (either (meet_digit rest us) (rest (Digits ∷ us)) e)
  where
    first : Both (BeginsDigit P) us → Both (BeginsDigit P) (Digits ∷ us)
    first r = (r.0, r.1, ends_here (FitsShape us) r.0 r.2)

    second : rest (Digits ∷ us) ≡ true → Both (BeginsDigit P) (Digits ∷ us)
    second t = let r = h (Digits ∷ us) t in (48 ∷ r.0, (zero_digit, r.1), inr (zero_digit, r.2))

by_run : (P : List ℕ → Type 0) (rest : List Token → Bool) → ((us : List Token) → rest us ≡ true → Both P us) → (us : List Token) → meet_run rest us ≡ true → Both (RunThen P) us
by_run P rest h [] e = let r = h [] e in (r.0, ends_here P r.0 r.1, r.2)
by_run P rest h (Byte c ∷ us) e = ⊎_elim first (λ t. let q = both (is_ascii_digit c) (meet_run rest us) t in second q.0 (by_run P rest h us q.1)) (either (rest (Byte c ∷ us)) (cond (is_ascii_digit c) (meet_run rest us) false) e)
  where
    first : rest (Byte c ∷ us) ≡ true → Both (RunThen P) (Byte c ∷ us)
    first t = let r = h (Byte c ∷ us) t in (r.0, ends_here P r.0 r.1, r.2)

    second : is_ascii_digit c ≡ true → Both (RunThen P) us → Both (RunThen P) (Byte c ∷ us)
    second d r = (c ∷ r.0, inr (d, r.1), (refl, r.2))
by_run P rest h (Digit ∷ us) e = ⊎_elim first (λ t. second (by_run P rest h us t)) (either (rest (Digit ∷ us)) (meet_run rest us) e)
  where
    first : rest (Digit ∷ us) ≡ true → Both (RunThen P) (Digit ∷ us)
    first t = let r = h (Digit ∷ us) t in (r.0, ends_here P r.0 r.1, r.2)

    second : Both (RunThen P) us → Both (RunThen P) (Digit ∷ us)
    second r = (48 ∷ r.0, inr (zero_digit, r.1), (zero_digit, r.2))
by_run P rest h (Digits ∷ us) e = ⊎_elim first (λ t. second (by_run P rest h us t)) (either (rest (Digits ∷ us)) (meet_run rest us) e)
  where
    first : rest (Digits ∷ us) ≡ true → Both (RunThen P) (Digits ∷ us)
    first t = let r = h (Digits ∷ us) t in (r.0, ends_here P r.0 r.1, r.2)

    second : Both (RunThen P) us → Both (RunThen P) (Digits ∷ us)
    second r = (r.0, r.1, ends_here (FitsShape us) r.0 r.2)

-- a yes comes with bytes that have both shapes
pub meet_shows : (ts us : List Token) → meet ts us ≡ true → Both (FitsShape ts) us
meet_shows [] us e = ([], tt, empty_fits us e)
meet_shows (Byte b ∷ ts) us e = let r = by_byte b (FitsShape ts) (meet ts) (meet_shows ts) us e in (r.0, as_byte r.0 r.1, r.2)
  where
    as_byte : (w : List ℕ) → Begins b (FitsShape ts) w → FitsShape (Byte b ∷ ts) w
    as_byte [] f = f
    as_byte (c ∷ w) f = f
meet_shows (Digit ∷ ts) us e = let r = by_digit (FitsShape ts) (meet ts) (meet_shows ts) us e in (r.0, as_digit r.0 r.1, r.2)
  where
    as_digit : (w : List ℕ) → BeginsDigit (FitsShape ts) w → FitsShape (Digit ∷ ts) w
    as_digit [] f = f
    as_digit (c ∷ w) f = f
meet_shows (Digits ∷ ts) us e = by_run (FitsShape ts) (meet ts) (meet_shows ts) us e

-- ---- from bytes to an answer

also : (c r : Bool) → c ≡ true → r ≡ true → cond c r false ≡ true
also c r p q = cc

left : (c r : Bool) → c ≡ true → cond c true r ≡ true
left c r p = ap (λ b. cond b true r) p

right : (c r : Bool) → r ≡ true → cond c true r ≡ true
right true r p = refl
right false r p = p

fits_empty : (us : List Token) → FitsShape us [] → may_be_empty us ≡ true
fits_empty [] f = refl
fits_empty (Digits ∷ us) f = fits_empty us f
fits_empty (Byte b ∷ us) f = absurd f
fits_empty (Digit ∷ us) f = absurd f

digit_same : (b c : ℕ) → b ≡ c → is_ascii_digit c ≡ true → is_ascii_digit b ≡ true
digit_same b c e d = ap is_ascii_digit e ∙ d

-- the bytes begin with this one; of the rest the answer is known
of_byte : (b : ℕ) (rest : List Token → Bool) (w : List ℕ) → ((us : List Token) → FitsShape us w → rest us ≡ true) → (us : List Token) → FitsShape us (b ∷ w) → meet_byte b rest us ≡ true
of_byte b rest w h [] f = absurd f
of_byte b rest w h (Byte c ∷ us) f = also (b == c) (rest us) (let same : b ≡ c = sym f.0 in grind (arith, nat_tests)) (h us f.1)
of_byte b rest w h (Digit ∷ us) f = also (is_ascii_digit b) (rest us) f.0 (h us f.1)
of_byte b rest w h (Digits ∷ us) (inl f) = left (meet_byte b rest us) (cond (is_ascii_digit b) (rest (Digits ∷ us)) false) (of_byte b rest w h us f)
of_byte b rest w h (Digits ∷ us) (inr f) = right (meet_byte b rest us) (cond (is_ascii_digit b) (rest (Digits ∷ us)) false) (also (is_ascii_digit b) (rest (Digits ∷ us)) f.0 (h (Digits ∷ us) f.1))

of_digit : (c : ℕ) (rest : List Token → Bool) (w : List ℕ) → is_ascii_digit c ≡ true → ((us : List Token) → FitsShape us w → rest us ≡ true) → (us : List Token) → FitsShape us (c ∷ w) → meet_digit rest us ≡ true
of_digit c rest w d h [] f = absurd f
of_digit c rest w d h (Byte b ∷ us) f = also (is_ascii_digit b) (rest us) (digit_same b c f.0 d) (h us f.1)
of_digit c rest w d h (Digit ∷ us) f = h us f.1
of_digit c rest w d h (Digits ∷ us) (inl f) = left (meet_digit rest us) (rest (Digits ∷ us)) (of_digit c rest w d h us f)
of_digit c rest w d h (Digits ∷ us) (inr f) = right (meet_digit rest us) (rest (Digits ∷ us)) (h (Digits ∷ us) f.1)

-- a run that ends at once
at_once : (rest : List Token → Bool) (us : List Token) → rest us ≡ true → meet_run rest us ≡ true
at_once rest [] e = e
at_once rest (Byte c ∷ us) e = left (rest (Byte c ∷ us)) (cond (is_ascii_digit c) (meet_run rest us) false) e
at_once rest (Digit ∷ us) e = left (rest (Digit ∷ us)) (meet_run rest us) e
at_once rest (Digits ∷ us) e = left (rest (Digits ∷ us)) (meet_run rest us) e

-- one digit more before what a run makes of it
one_more : (c : ℕ) (rest : List Token → Bool) (w : List ℕ) → is_ascii_digit c ≡ true → ((us : List Token) → FitsShape us w → meet_run rest us ≡ true) → (us : List Token) → FitsShape us (c ∷ w) → meet_run rest us ≡ true
one_more c rest w d h [] f = absurd f
one_more c rest w d h (Byte b ∷ us) f = right (rest (Byte b ∷ us)) (cond (is_ascii_digit b) (meet_run rest us) false) (also (is_ascii_digit b) (meet_run rest us) (digit_same b c f.0 d) (h us f.1))
one_more c rest w d h (Digit ∷ us) f = right (rest (Digit ∷ us)) (meet_run rest us) (h us f.1)
one_more c rest w d h (Digits ∷ us) (inl f) = right (rest (Digits ∷ us)) (meet_run rest us) (one_more c rest w d h us f)
one_more c rest w d h (Digits ∷ us) (inr f) = h (Digits ∷ us) f.1

of_run : (P : List ℕ → Type 0) (rest : List Token → Bool) → ((w : List ℕ) → P w → (us : List Token) → FitsShape us w → rest us ≡ true) → (w : List ℕ) → RunThen P w → (us : List Token) → FitsShape us w → meet_run rest us ≡ true
of_run P rest h [] p us f = at_once rest us (h [] p us f)
of_run P rest h (c ∷ w) (inl p) us f = at_once rest us (h (c ∷ w) p us f)
of_run P rest h (c ∷ w) (inr p) us f = one_more c rest w p.0 (λ vs g. of_run P rest h w p.1 vs g) us f

-- bytes that have both shapes bring a yes
pub meet_tells : (ts : List Token) (w : List ℕ) → FitsShape ts w → (us : List Token) → FitsShape us w → meet ts us ≡ true
meet_tells [] [] f us g = fits_empty us g
meet_tells [] (c ∷ w) f us g = absurd f
meet_tells (Byte b ∷ ts) [] f us g = absurd f
meet_tells (Byte b ∷ ts) (c ∷ w) f us g = of_byte b (meet ts) w (meet_tells ts w f.1) us (subst (λ (k : ℕ). FitsShape us (k ∷ w)) (sym f.0) g)
meet_tells (Digit ∷ ts) [] f us g = absurd f
meet_tells (Digit ∷ ts) (c ∷ w) f us g = of_digit c (meet ts) w f.0 (meet_tells ts w f.1) us g
meet_tells (Digits ∷ ts) w f us g = of_run (FitsShape ts) (meet ts) (meet_tells ts) w f us g

pub meet_is_common : (ts us : List Token) → (meet ts us ≡ true → HaveCommon ts us) × (HaveCommon ts us → meet ts us ≡ true)
meet_is_common ts us = (
  λ e. let r = meet_shows ts us e in record { bytes = r.0; first = r.1; second = r.2 },
  λ c. meet_tells ts c.bytes c.first us c.second,
)
