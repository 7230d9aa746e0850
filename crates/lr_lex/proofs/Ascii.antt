-- Text from which bytes below 128 are taken out, or put for one another.
use Rattle.std.proofs.Common.{◌≡◌, ℕ, zero, suc, ◌+◌, ◌<◌, ◌||◌, not, Bool, true, false, cond, eqb, List, [], ◌∷◌, ◌++◌, length, take, drop, get_or, refl, ap, sym, subst, ◌∙◌, append_assoc, append-nil, arith, length-append, eqb-true}
use Rattle.std.specs.Prelude.{IsUtf8}
use Rattle.std.proofs.lemmas.Bool.{and_parts}
use Rattle.std.proofs.lemmas.List.{map-append, take_at}
use Rattle.std.proofs.lemmas.Str.{IsUtf8-append, IsUtf8-take, IsUtf8-drop, IsUtf8-from_ascii, IsUtf8-from_is_utf8, IsCharBoundary-before_ascii, IsCharBoundary-after_ascii}
use Rattle.lr_lex.specs.declared.sign.Sign.{Sign}
use Rattle.lr_lex.specs.declared.sign.Sign.TheVariants.{Blank, Mark, Plain, Quoted}
use Rattle.std.specs.Str.{is_utf8}
use Rattle.std.specs.List.{list_any}
use Rattle.lr_rules.specs.Bytes.{is_blank}
use Rattle.lr_lex.specs.Items.{is_text, is_zero}
use Rattle.lr_lex.specs.Signs.{signs, sign_of, quote_behind, escape, is_quote}
use Rattle.lr_lex.specs.Scanning.{sign_byte, sign_bytes, behind_sign}

at_middle : (xs ys : List ℕ) (b : ℕ) → get_or (xs ++ b ∷ ys) (length xs) 0 ≡ b
at_middle [] ys b = refl
at_middle (x ∷ xs) ys b = at_middle xs ys b

drop_middle : (xs ys : List ℕ) (b : ℕ) → drop (suc (length xs)) (xs ++ b ∷ ys) ≡ ys
drop_middle [] ys b = refl
drop_middle (x ∷ xs) ys b = drop_middle xs ys b

-- the parts of a text around a byte below 128 are texts
pub parts : (xs ys : List ℕ) (b : ℕ) → b < 128 → IsUtf8 (xs ++ b ∷ ys) → IsUtf8 xs × IsUtf8 ys
parts xs ys b small u =
    let all = xs ++ b ∷ ys in
    let here : get_or all (length xs) 0 ≡ b = at_middle xs ys b in
    let inside : length xs < length all = omega (arith, length-append xs (b ∷ ys)) in
    let low : get_or all (length xs) 0 < 128 = omega (arith, here) in
    let next : length xs + 1 ≡ suc (length xs) = omega arith in
    let front : IsUtf8 (take (length xs) all) = IsUtf8-take all (length xs) u (IsCharBoundary-before_ascii all (length xs) inside low) in
    let back : IsUtf8 (drop (length xs + 1) all) = IsUtf8-drop all (length xs + 1) u (IsCharBoundary-after_ascii all (length xs) u inside low) in
    (subst IsUtf8 (take_at xs (b ∷ ys) (length xs) refl) front, subst IsUtf8 (ap (λ n. drop n all) next ∙ drop_middle xs ys b) back)

one_ascii : (b : ℕ) → b < 128 → (i : ℕ) → get_or (b ∷ []) i 0 < 128
one_ascii b small zero = small
one_ascii b small (suc i) = omega arith

pub one_text : (b : ℕ) → b < 128 → IsUtf8 (b ∷ [])
one_text b small = IsUtf8-from_ascii (b ∷ []) (one_ascii b small)

-- a byte below 128 stands for another
replaced : (xs ys : List ℕ) (b c : ℕ) → b < 128 → c < 128 → IsUtf8 (xs ++ b ∷ ys) → IsUtf8 (xs ++ c ∷ ys)
replaced xs ys b c small also u =
    let p = parts xs ys b small u in
    IsUtf8-append xs (c ∷ ys) p.0 (IsUtf8-append (c ∷ []) ys (one_text c also) p.1)

-- ---- the bytes of a word, sign by sign

pub utf8_behind : (bytes : List ℕ) (s : Sign) (ss : List Sign) → IsUtf8 (bytes ++ sign_bytes (s ∷ ss)) → IsUtf8 (behind_sign bytes s ++ sign_bytes ss)
utf8_behind bytes Blank ss u = (parts bytes (sign_bytes ss) 32 (omega arith) u).1
utf8_behind bytes Mark ss u =
    let p = parts bytes (sign_bytes ss) 34 (omega arith) u in
    subst (λ l. IsUtf8 (l ++ sign_bytes ss)) (sym (append-nil bytes)) (IsUtf8-append bytes (sign_bytes ss) p.0 p.1)
utf8_behind bytes (Plain b) ss u = subst IsUtf8 (sym (append_assoc bytes (b ∷ []) (sign_bytes ss))) u
utf8_behind bytes (Quoted b) ss u = subst IsUtf8 (sym (append_assoc bytes (b ∷ []) (sign_bytes ss))) u

pub utf8_at_blank : (bytes : List ℕ) (s : Sign) (ss : List Sign) → IsUtf8 (bytes ++ sign_bytes (s ∷ ss)) → s ≡ Blank → IsUtf8 bytes
utf8_at_blank bytes s ss u e =
    let v : IsUtf8 (bytes ++ sign_bytes (Blank ∷ ss)) = subst (λ x. IsUtf8 (bytes ++ sign_bytes (x ∷ ss))) e u in
    (parts bytes (sign_bytes ss) 32 (omega arith) v).0

pub utf8_around : (front back : List Sign) (s : Sign) → sign_byte s < 128 → IsUtf8 (sign_bytes (front ++ s ∷ back)) → IsUtf8 (sign_bytes front) × IsUtf8 (sign_bytes back)
utf8_around front back s small u =
    parts (sign_bytes front) (sign_bytes back) (sign_byte s) small (subst IsUtf8 (map-append sign_byte front (s ∷ back)) u)

-- ---- the signs of a text

small_of : (b k : ℕ) → k < 128 → eqb b k ≡ true → b < 128
small_of b k small e = let f : b ≡ k = eqb-true b k e in omega (arith, f)

small_or : (b k : ℕ) (t : Bool) → k < 128 → (t ≡ true → b < 128) → (eqb b k || t) ≡ true → b < 128
small_or b k t small other e = by_test (eqb b k) refl e
  where
    by_test : (x : Bool) → eqb b k ≡ x → (x || t) ≡ true → b < 128
    by_test true is e = small_of b k small is
    by_test false is e = other e

quote_small : (b : ℕ) → is_quote b ≡ true → b < 128
quote_small b e = small_or b 34 (eqb b 39) (omega arith) (small_of b 39 (omega arith)) e

blank_small : (b : ℕ) → is_blank b ≡ true → b < 128
blank_small b e = small_or b 32 (eqb b 9 || eqb b 13) (omega arith) (small_or b 9 (eqb b 13) (omega arith) (small_of b 13 (omega arith))) e

sign-utf8 : (q b : ℕ) (pre ys : List ℕ) → q < 128 → IsUtf8 (pre ++ b ∷ ys) → IsUtf8 (pre ++ sign_byte (sign_of q b) ∷ ys)
unfolding sign_of
sign-utf8 q b pre ys small u = by_quote (eqb q 0)
  where
    by_blank : (t : Bool) → is_blank b ≡ t → IsUtf8 (pre ++ sign_byte (cond t Blank (Plain b)) ∷ ys)
    by_blank true e = replaced pre ys b 32 (blank_small b e) (omega arith) u
    by_blank false e = u

    by_mark : (t : Bool) → is_quote b ≡ t → IsUtf8 (pre ++ sign_byte (cond t Mark (cond (is_blank b) Blank (Plain b))) ∷ ys)
    by_mark true e = replaced pre ys b 34 (quote_small b e) (omega arith) u
    by_mark false e = by_blank (is_blank b) refl

    by_same : (t : Bool) → eqb b q ≡ t → IsUtf8 (pre ++ sign_byte (cond t Mark (Quoted b)) ∷ ys)
    by_same true e = replaced pre ys b 34 (small_of b q small e) (omega arith) u
    by_same false e = u

    by_quote : (t : Bool) → IsUtf8 (pre ++ sign_byte (cond t (cond (is_quote b) Mark (cond (is_blank b) Blank (Plain b))) (cond (eqb b q) Mark (Quoted b))) ∷ ys)
    by_quote true = by_mark (is_quote b) refl
    by_quote false = by_same (eqb b q) refl

quote-small : (q b : ℕ) → q < 128 → quote_behind q b < 128
unfolding quote_behind
quote-small q b small = by_quote (eqb q 0)
  where
    by_mark : (t : Bool) → is_quote b ≡ t → cond t b 0 < 128
    by_mark true e = quote_small b e
    by_mark false e = omega arith

    by_same : (t : Bool) → cond t 0 q < 128
    by_same true = omega arith
    by_same false = small

    by_quote : (t : Bool) → cond t (cond (is_quote b) b 0) (cond (eqb b q) 0 q) < 128
    by_quote true = by_mark (is_quote b) refl
    by_quote false = by_same (eqb b q)

escape-small : (names : Bool) → sign_byte (escape names) < 128
escape-small true = omega arith
escape-small false = omega arith

moved : (pre xs ys : List ℕ) → IsUtf8 (pre ++ (xs ++ ys)) → IsUtf8 ((pre ++ xs) ++ ys)
moved pre xs ys u = subst IsUtf8 (sym (append_assoc pre xs ys)) u

moved_back : (pre xs ys : List ℕ) → IsUtf8 ((pre ++ xs) ++ ys) → IsUtf8 (pre ++ (xs ++ ys))
moved_back pre xs ys u = subst IsUtf8 (append_assoc pre xs ys) u

signs-utf8 : (names : Bool) (bs : List ℕ) (q : ℕ) (pre : List ℕ) → q < 128 → IsUtf8 (pre ++ bs) → IsUtf8 (pre ++ sign_bytes (signs names q bs))
signs-utf8 names [] q pre small u = u
signs-utf8 names (b ∷ []) q pre small u = sign-utf8 q b pre [] small u
signs-utf8 names (b ∷ c ∷ bs) q pre small u = by_test (eqb b 92) refl (λ p v. signs-utf8 names bs q p small v) (λ p v. signs-utf8 names (c ∷ bs) (quote_behind q b) p (quote-small q b small) v)
  where
    by_test : (t : Bool) → eqb b 92 ≡ t → ((p : List ℕ) → IsUtf8 (p ++ bs) → IsUtf8 (p ++ sign_bytes (signs names q bs)))
        → ((p : List ℕ) → IsUtf8 (p ++ c ∷ bs) → IsUtf8 (p ++ sign_bytes (signs names (quote_behind q b) (c ∷ bs))))
        → IsUtf8 (pre ++ sign_bytes (cond t (escape names ∷ (Quoted c ∷ signs names q bs)) (sign_of q b ∷ signs names (quote_behind q b) (c ∷ bs))))
    by_test true e two one =
        let v : IsUtf8 (pre ++ sign_byte (escape names) ∷ c ∷ bs) = replaced pre (c ∷ bs) b (sign_byte (escape names)) (small_of b 92 (omega arith) e) (escape-small names) u in
        moved_back pre (sign_byte (escape names) ∷ c ∷ []) (sign_bytes (signs names q bs))
        (two (pre ++ sign_byte (escape names) ∷ c ∷ []) (moved pre (sign_byte (escape names) ∷ c ∷ []) bs v))
    by_test false e two one =
        let v = sign-utf8 q b pre (c ∷ bs) small u in
        moved_back pre (sign_byte (sign_of q b) ∷ []) (sign_bytes (signs names (quote_behind q b) (c ∷ bs)))
        (one (pre ++ sign_byte (sign_of q b) ∷ []) (moved pre (sign_byte (sign_of q b) ∷ []) (c ∷ bs) v))

pub line-utf8 : (names : Bool) (line : List ℕ) → IsUtf8 line → IsUtf8 (sign_bytes (signs names 0 line))
line-utf8 names line u = signs-utf8 names line 0 [] (omega arith) u

pub utf8_of_text : (bytes : List ℕ) → is_text bytes ≡ true → IsUtf8 bytes
unfolding is_text
utf8_of_text bytes e = IsUtf8-from_is_utf8 bytes (and_parts (is_utf8 bytes) (not (list_any is_zero bytes)) e).0
