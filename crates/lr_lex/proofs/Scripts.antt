-- The bytes of a script.
use Rattle.std.proofs.Common.{◌≡◌, ℕ, ◌+◌, ◌-◌, ◌<◌, ◌⊎◌, inl, inr, Bool, true, false, cond, not, eqb, ◌&&◌, ◌||◌, List, [], ◌∷◌, ◌++◌, length, take, refl, sym, ap, subst, ◌∙◌, arith, length-append, eqb-true}
use Rattle.std.proofs.lemmas.Bool.{or_parts}
use Rattle.std.proofs.lemmas.List.{take_at}
use Rattle.std.specs.Str.{is_utf8}
use Rattle.std.specs.List.{list_any}
use Rattle.std.proofs.lemmas.Str.{IsUtf8-append, IsUtf8-from_is_utf8, is_utf8-from_IsUtf8}
use Rattle.lr_rules.proofs.Bools.{same_bools}
use Rattle.lr_lex.specs.Lines.{NumberedLine, line_at, lines, longer, line_of, after_line}
use Rattle.lr_lex.specs.Items.{is_text, is_zero, is_end, body, ended, script_text}
use Rattle.lr_lex.proofs.Ascii.{parts, one_text}

-- ---- the text of all lines is the bytes, with a newline behind them where it lacks

abbrev Closed : List ℕ → List ℕ → Type 0
Closed text bs = (text ≡ bs) ⊎ (text ≡ bs ++ 10 ∷ [])

one-more : (b : ℕ) (text bs : List ℕ) → Closed text bs → Closed (b ∷ text) (b ∷ bs)
one-more b text bs (inl e) = inl (ap (λ l. b ∷ l) e)
one-more b text bs (inr e) = inr (ap (λ l. b ∷ l) e)

longer-text : (n at b : ℕ) (ls : List NumberedLine) (bs : List ℕ) → Closed (script_text ls) bs → Closed (script_text (longer n at b ls)) (b ∷ bs)
longer-text n at b [] bs (inl e) = inr (ap (λ l. b ∷ l ++ 10 ∷ []) e)
longer-text n at b [] bs (inr e) = let f = ap length e ∙ length-append bs (10 ∷ []) in absurd (omega (arith, f))
longer-text n at b (l ∷ ls) bs c = one-more b (script_text (l ∷ ls)) bs c

lines-text : (n at : ℕ) (bs : List ℕ) → Closed (script_text (lines n at bs)) bs
lines-text n at [] = inl refl
lines-text n at (b ∷ bs) = by_test (eqb b 10) refl (lines-text (n + 1) (at + 1) bs) (lines-text n (at + 1) bs)
  where
    by_test : (t : Bool) → eqb b 10 ≡ t → Closed (script_text (lines (n + 1) (at + 1) bs)) bs → Closed (script_text (lines n (at + 1) bs)) bs
        → Closed (script_text (cond t (line_at n at [] ∷ lines (n + 1) (at + 1) bs) (longer n at b (lines n (at + 1) bs)))) (b ∷ bs)
    by_test true e c d = let is : b ≡ 10 = eqb-true b 10 e in subst (λ x. Closed (x ∷ script_text (lines (n + 1) (at + 1) bs)) (b ∷ bs)) is (one-more b (script_text (lines (n + 1) (at + 1) bs)) bs c)
    by_test false e c d = longer-text n at b (lines n (at + 1) bs) bs d

newline-utf8 : (bs : List ℕ) → is_utf8 bs ≡ is_utf8 (bs ++ 10 ∷ [])
newline-utf8 bs =
    same_bools (is_utf8 bs) (is_utf8 (bs ++ 10 ∷ []))
    (λ e. is_utf8-from_IsUtf8 (bs ++ 10 ∷ []) (IsUtf8-append bs (10 ∷ []) (IsUtf8-from_is_utf8 bs e) (one_text 10 (omega arith))))
    (λ e. is_utf8-from_IsUtf8 bs (parts bs [] 10 (omega arith) (IsUtf8-from_is_utf8 (bs ++ 10 ∷ []) e)).0)

newline-zero : (bs : List ℕ) → list_any is_zero bs ≡ list_any is_zero (bs ++ 10 ∷ [])
newline-zero [] = refl
newline-zero (b ∷ bs) = ap (λ x. is_zero b || x) (newline-zero bs)

newline-test : (bs : List ℕ) → is_text bs ≡ is_text (bs ++ 10 ∷ [])
unfolding is_text
newline-test bs = ap (λ x. x && not (list_any is_zero bs)) (newline-utf8 bs) ∙ ap (λ x. is_utf8 (bs ++ 10 ∷ []) && not x) (newline-zero bs)

closed-test : (text bs : List ℕ) → Closed text bs → is_text bs ≡ is_text text
closed-test text bs (inl e) = ap is_text (sym e)
closed-test text bs (inr e) = newline-test bs ∙ ap is_text (sym e)

all-body : (ls : List NumberedLine) → ended ls ≡ false → body ls ≡ ls
all-body [] e = refl
all-body (l ∷ ls) e =
    ap (λ t. cond t [] (l ∷ body ls)) (or_parts (is_end l) (ended ls) e).0 ∙ ap (λ x. l ∷ x) (all-body ls (or_parts (is_end l) (ended ls) e).1)

-- a script without end is all lines
pub open-test : (n at : ℕ) (bs : List ℕ) → ended (lines n at bs) ≡ false → is_text bs ≡ is_text (script_text (body (lines n at bs)))
open-test n at bs e = closed-test (script_text (lines n at bs)) bs (lines-text n at bs) ∙ ap (λ ls. is_text (script_text ls)) (sym (all-body (lines n at bs) e))

-- ---- the bytes before a place

-- what stands before the second line
abbrev pub Fronts : List ℕ → List ℕ → List ℕ → Type 0
Fronts bs line rest = (front : List ℕ) × (bs ≡ front ++ rest) × (0 < length rest → front ≡ line ++ 10 ∷ [])

pub front-of : (bs : List ℕ) → Fronts bs (line_of bs) (after_line bs)
unfolding line_of after_line
front-of [] = ([], refl, λ h. absurd (omega arith))
front-of (b ∷ bs) = by_test (eqb b 10) refl (front-of bs)
  where
    by_test : (t : Bool) → eqb b 10 ≡ t → Fronts bs (line_of bs) (after_line bs) → Fronts (b ∷ bs) (cond t [] (b ∷ line_of bs)) (cond t bs (after_line bs))
    by_test true e f = let is : b ≡ 10 = eqb-true b 10 e in (10 ∷ [], ap (λ x. x ∷ bs) is, λ h. refl)
    by_test false e (front, whole, line) = (b ∷ front, ap (λ l. b ∷ l) whole, λ h. ap (λ l. b ∷ l) (line h))

pub before : (front behind all : List ℕ) → all ≡ front ++ behind → take (length all - length behind) all ≡ front
before front behind all e =
    let n : length all - length behind ≡ length front = let f = ap length e ∙ length-append front behind in omega (arith, f) in
    ap (λ k. take k all) n ∙ ap (take (length front)) e ∙ take_at front behind (length front) refl

pub zero-length : (n : ℕ) → true ≡ eqb n 0 → n ≡ 0
zero-length n e = eqb-true n 0 (sym e)
