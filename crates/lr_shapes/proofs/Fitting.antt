-- What fits lists of tokens, one behind the other.
use Rattle.std.proofs.Common.{◌≡◌, inl, inr, ℕ, suc, zero, ◌≤◌, ◌<◌, true, List, [], ◌∷◌, ◌++◌, length, append_assoc, refl, sym, ap, ◌∙◌, subst, arith}
use Rattle.std.specs.Char.{is_ascii_digit}
use Rattle.std.proofs.lemmas.Bool.Decides.{nat_tests}
use Rattle.std.proofs.lemmas.List.Elements.{All-nil, All-cons, All-head, All-tail}
use Rattle.lr_rules.specs.declared.rule.Field.{Field}
use Rattle.lr_rules.specs.declared.rule.Field.TheVariants as field
use Rattle.lr_rules.specs.declared.rule.Piece.{Piece}
use Rattle.lr_rules.specs.declared.rule.Piece.TheVariants as piece
use Rattle.lr_rules.specs.Names.{AreDigits, IsRun, IsFieldShape, IsStampShape}
use Rattle.lr_rules.proofs.Digits.{IsDigit}
use Rattle.lr_shapes.specs.declared.token.Token.{Token}
use Rattle.lr_shapes.specs.declared.token.Token.TheVariants.{Byte, Digit, Digits}
use Rattle.lr_shapes.specs.Tokens.{RunThen, FitsShape}
use Rattle.lr_shapes.specs.Pieces.{plain, field_tokens, piece_tokens, stamp_tokens}

-- bytes of two parts, of which the first has P and the second fits
pub record InTwo (P : List ℕ → Type 0) (us : List Token) (w : List ℕ) : Type 0 where
  pub front : List ℕ
  pub back : List ℕ
  pub joined : w ≡ front ++ back
  pub first : P front
  pub second : FitsShape us back

-- one byte more in front
more : (P Q : List ℕ → Type 0) (us : List Token) (c : ℕ) (w : List ℕ) → ((v : List ℕ) → P v → Q (c ∷ v)) → InTwo P us w → InTwo Q us (c ∷ w)
more P Q us c w f t = record { front = c ∷ t.front; back = t.back; joined = ap (λ v. c ∷ v) t.joined; first = f t.front t.first; second = t.second }

run_split : (P Q : List ℕ → Type 0) (us : List Token) → ((v : List ℕ) → Q v → InTwo P us v) → (w : List ℕ) → RunThen Q w → InTwo (RunThen P) us w
run_split P Q us h [] q = at_once (h [] q)
  where
    at_once : InTwo P us [] → InTwo (RunThen P) us []
    at_once t = record { front = t.front; back = t.back; joined = t.joined; first = go t.front t.first; second = t.second }
      where
        go : (v : List ℕ) → P v → RunThen P v
        go [] p = p
        go (d ∷ v) p = inl p
run_split P Q us h (c ∷ w) (inl q) = at_once (h (c ∷ w) q)
  where
    at_once : InTwo P us (c ∷ w) → InTwo (RunThen P) us (c ∷ w)
    at_once t = record { front = t.front; back = t.back; joined = t.joined; first = go t.front t.first; second = t.second }
      where
        go : (v : List ℕ) → P v → RunThen P v
        go [] p = p
        go (d ∷ v) p = inl p
run_split P Q us h (c ∷ w) (inr q) = more (RunThen P) (RunThen P) us c w (λ v p. inr (q.0, p)) (run_split P Q us h w q.1)

pub fits_split : (ts us : List Token) (w : List ℕ) → FitsShape (ts ++ us) w → InTwo (FitsShape ts) us w
fits_split [] us w f = record { front = []; back = w; joined = refl; first = tt; second = f }
fits_split (Byte b ∷ ts) us [] f = absurd f
fits_split (Byte b ∷ ts) us (c ∷ w) f = more (FitsShape ts) (FitsShape (Byte b ∷ ts)) us c w (λ v p. (f.0, p)) (fits_split ts us w f.1)
fits_split (Digit ∷ ts) us [] f = absurd f
fits_split (Digit ∷ ts) us (c ∷ w) f = more (FitsShape ts) (FitsShape (Digit ∷ ts)) us c w (λ v p. (f.0, p)) (fits_split ts us w f.1)
fits_split (Digits ∷ ts) us w f = run_split (FitsShape ts) (FitsShape (ts ++ us)) us (fits_split ts us) w f

run_join : (P Q : List ℕ → Type 0) (back : List ℕ) → ((v : List ℕ) → P v → Q (v ++ back)) → (front : List ℕ) → RunThen P front → RunThen Q (front ++ back)
run_join P Q back h [] p = go back (h [] p)
  where
    go : (v : List ℕ) → Q v → RunThen Q v
    go [] q = q
    go (d ∷ v) q = inl q
run_join P Q back h (c ∷ front) (inl p) = inl (h (c ∷ front) p)
run_join P Q back h (c ∷ front) (inr p) = inr (p.0, run_join P Q back h front p.1)

pub fits_join : (ts us : List Token) (front back : List ℕ) → FitsShape ts front → FitsShape us back → FitsShape (ts ++ us) (front ++ back)
fits_join [] us [] back f g = g
fits_join [] us (c ∷ front) back f g = absurd f
fits_join (Byte b ∷ ts) us [] back f g = absurd f
fits_join (Byte b ∷ ts) us (c ∷ front) back f g = (f.0, fits_join ts us front back f.1 g)
fits_join (Digit ∷ ts) us [] back f g = absurd f
fits_join (Digit ∷ ts) us (c ∷ front) back f g = (f.0, fits_join ts us front back f.1 g)
fits_join (Digits ∷ ts) us front back f g = run_join (FitsShape ts) (FitsShape (ts ++ us)) back (λ v p. fits_join ts us v back p g) front f

-- ---- bytes

pub plain_fits : (xs : List ℕ) → FitsShape (plain xs) xs
plain_fits [] = tt
plain_fits (x ∷ xs) = (refl, plain_fits xs)

pub fits_plain : (xs w : List ℕ) → FitsShape (plain xs) w → w ≡ xs
fits_plain [] [] f = refl
fits_plain [] (c ∷ w) f = absurd f
fits_plain (x ∷ xs) [] f = absurd f
fits_plain (x ∷ xs) (c ∷ w) f = let e : w ≡ xs = fits_plain xs w f.1 in let s : x ≡ c = f.0 in cc

-- ---- digits

is_one : (d : ℕ) → is_ascii_digit d ≡ true → IsDigit d
is_one d e = (grind (arith, nat_tests), grind (arith, nat_tests))

one_is : (d : ℕ) → IsDigit d → is_ascii_digit d ≡ true
one_is d h = let low : 48 ≤ d = h.0 in let high : d ≤ 57 = h.1 in grind (arith, nat_tests)

cons_digits : (d : ℕ) (ds : List ℕ) → is_ascii_digit d ≡ true → AreDigits ds → AreDigits (d ∷ ds)
cons_digits d ds e all = All-cons IsDigit d ds (is_one d e) all

-- so many digits
abbrev places : ℕ → List Token
places zero = []
places (suc n) = Digit ∷ places n

places_digits : (n : ℕ) (ds : List ℕ) → FitsShape (places n) ds → (length ds ≡ n) × AreDigits ds
places_digits zero [] f = (refl, All-nil IsDigit)
places_digits zero (d ∷ ds) f = absurd f
places_digits (suc n) [] f = absurd f
places_digits (suc n) (d ∷ ds) f = let r = places_digits n ds f.1 in (let e : length ds ≡ n = r.0 in omega arith, cons_digits d ds f.0 r.1)

digits_places : (n : ℕ) (ds : List ℕ) → length ds ≡ n → AreDigits ds → FitsShape (places n) ds
digits_places zero [] e a = tt
digits_places zero (d ∷ ds) e a = absurd (omega arith)
digits_places (suc n) [] e a = absurd (omega arith)
digits_places (suc n) (d ∷ ds) e a = (one_is d (All-head IsDigit d ds a), digits_places n ds (omega arith) (All-tail IsDigit d ds a))

run_digits : (ds : List ℕ) → RunThen (FitsShape []) ds → AreDigits ds
run_digits [] f = All-nil IsDigit
run_digits (d ∷ ds) (inl f) = absurd f
run_digits (d ∷ ds) (inr f) = cons_digits d ds f.0 (run_digits ds f.1)

digits_run : (ds : List ℕ) → AreDigits ds → RunThen (FitsShape []) ds
digits_run [] a = tt
digits_run (d ∷ ds) a = inr (one_is d (All-head IsDigit d ds a), digits_run ds (All-tail IsDigit d ds a))

some_digits : (ds : List ℕ) → FitsShape (Digit ∷ Digits ∷ []) ds → IsRun ds
some_digits [] f = absurd f
some_digits (d ∷ ds) f = (omega arith, cons_digits d ds f.0 (run_digits ds f.1))

digits_some : (ds : List ℕ) → IsRun ds → FitsShape (Digit ∷ Digits ∷ []) ds
digits_some [] r = absurd (let h : 0 < length {A = ℕ} [] = r.0 in omega arith)
digits_some (d ∷ ds) r = (one_is d (All-head IsDigit d ds r.1), digits_run ds (All-tail IsDigit d ds r.1))

-- ---- stamps

field_shape : (f : Field) (ds : List ℕ) → FitsShape (field_tokens f) ds → IsFieldShape f ds
field_shape field.Year ds h = places_digits 4 ds h
field_shape field.Epoch ds h = some_digits ds h
field_shape field.Month ds h = places_digits 2 ds h
field_shape field.Day ds h = places_digits 2 ds h
field_shape field.Hour ds h = places_digits 2 ds h
field_shape field.Minute ds h = places_digits 2 ds h
field_shape field.Second ds h = places_digits 2 ds h

shape_field : (f : Field) (ds : List ℕ) → IsFieldShape f ds → FitsShape (field_tokens f) ds
shape_field field.Year ds h = digits_places 4 ds h.0 h.1
shape_field field.Epoch ds h = digits_some ds h
shape_field field.Month ds h = digits_places 2 ds h.0 h.1
shape_field field.Day ds h = digits_places 2 ds h.0 h.1
shape_field field.Hour ds h = digits_places 2 ds h.0 h.1
shape_field field.Minute ds h = digits_places 2 ds h.0 h.1
shape_field field.Second ds h = digits_places 2 ds h.0 h.1

none_left : (w : List ℕ) → FitsShape [] w → w ≡ []
none_left [] f = refl
none_left (c ∷ w) f = absurd f

pub stamp_shape : (pieces : List Piece) (w : List ℕ) → FitsShape (stamp_tokens pieces) w → IsStampShape pieces w
stamp_shape [] w f = none_left w f
stamp_shape (piece.Byte b ∷ pieces) [] f = absurd f
stamp_shape (piece.Byte b ∷ pieces) (c ∷ w) f = (w, ap (λ d. d ∷ w) (sym f.0), stamp_shape pieces w f.1)
stamp_shape (piece.Field f ∷ pieces) w h = let t = fits_split (field_tokens f) (stamp_tokens pieces) w h in (t.front, t.back, t.joined, field_shape f t.front t.first, stamp_shape pieces t.back t.second)

pub shape_stamp : (pieces : List Piece) (w : List ℕ) → IsStampShape pieces w → FitsShape (stamp_tokens pieces) w
shape_stamp [] w e = subst (FitsShape []) (sym e) tt
shape_stamp (piece.Byte b ∷ pieces) w h = subst (FitsShape (Byte b ∷ stamp_tokens pieces)) (sym h.1) (refl, shape_stamp pieces h.0 h.2)
shape_stamp (piece.Field f ∷ pieces) w h = subst (FitsShape (field_tokens f ++ stamp_tokens pieces)) (sym h.2) (fits_join (field_tokens f) (stamp_tokens pieces) h.0 h.1 (shape_field f h.0 h.3) (shape_stamp pieces h.1 h.4))

pub tokens_append : (ps qs : List Piece) → stamp_tokens (ps ++ qs) ≡ stamp_tokens ps ++ stamp_tokens qs
tokens_append [] qs = refl
tokens_append (p ∷ ps) qs = ap (λ (ts : List Token). piece_tokens p ++ ts) (tokens_append ps qs) ∙ sym (append_assoc (piece_tokens p) (stamp_tokens ps) (stamp_tokens qs))
