-- The signs of a line from a place on.
use Rattle.std.proofs.Common.{◌≡◌, ℕ, ◌+◌, ◌<◌, ◌≤◌, Bool, cond, List, [], ◌∷◌, ◌++◌, append_assoc, length-append, length, drop, get_or, refl, ap, ◌∙◌, arith, eqb, drop-cons}
use Rattle.std.proofs.Math.ListN.{drop_of_length-le}
use Rattle.std.proofs.lemmas.Bool.{cond-false, ne_eqb}
use Rattle.lr_lex.specs.declared.sign.Sign.{Sign}
use Rattle.lr_lex.specs.declared.sign.Sign.TheVariants.{Blank, Quoted}
use Rattle.lr_lex.specs.Signs.{signs, left_open, sign_of, quote_behind, escape}

pub more : (line : List ℕ) (i : ℕ) → i < length line → drop i line ≡ get_or line i 0 ∷ drop (i + 1) line
more line i h = grind (arith, drop-cons)

pub two : (line : List ℕ) (i : ℕ) → i + 1 < length line → drop i line ≡ get_or line i 0 ∷ get_or line (i + 1) 0 ∷ drop (i + 2) line
two line i h =
    let a : i + 1 + 1 ≡ i + 2 = omega arith in
    more line i (omega arith) ∙ ap (λ x. get_or line i 0 ∷ x) (more line (i + 1) h) ∙ ap (λ n. get_or line i 0 ∷ get_or line (i + 1) 0 ∷ drop n line) a

-- a backslash before a byte
escape-signs : (names : Bool) (q b c : ℕ) (bs : List ℕ) → b ≡ 92 → signs names q (b ∷ c ∷ bs) ≡ escape names ∷ (Quoted c ∷ signs names q bs)
escape-signs names q b c bs e = ap (λ x. cond (eqb x 92) (escape names ∷ (Quoted c ∷ signs names q bs)) (sign_of q b ∷ signs names (quote_behind q b) (c ∷ bs))) e

escape-open : (q b c : ℕ) (bs : List ℕ) → b ≡ 92 → left_open q (b ∷ c ∷ bs) ≡ left_open q bs
escape-open q b c bs e = ap (λ x. cond (eqb x 92) (left_open q bs) (left_open (quote_behind q b) (c ∷ bs))) e

pub signs-escape : (names : Bool) (q : ℕ) (line : List ℕ) (i : ℕ) → i + 1 < length line → get_or line i 0 ≡ 92 → signs names q (drop i line) ≡ escape names ∷ (Quoted (get_or line (i + 1) 0) ∷ signs names q (drop (i + 2) line))
signs-escape names q line i h e = ap (signs names q) (two line i h) ∙ escape-signs names q (get_or line i 0) (get_or line (i + 1) 0) (drop (i + 2) line) e

pub open-escape : (q : ℕ) (line : List ℕ) (i : ℕ) → i + 1 < length line → get_or line i 0 ≡ 92 → left_open q (drop i line) ≡ left_open q (drop (i + 2) line)
open-escape q line i h e = ap (left_open q) (two line i h) ∙ escape-open q (get_or line i 0) (get_or line (i + 1) 0) (drop (i + 2) line) e

-- any other byte
plain-signs : (names : Bool) (q b : ℕ) (bs : List ℕ) → (b ≡ 92 → bs ≡ []) → signs names q (b ∷ bs) ≡ sign_of q b ∷ signs names (quote_behind q b) bs
plain-signs names q b [] other = refl
plain-signs names q b (c ∷ bs) other =
    cond-false _ _ _ (ne_eqb b 92 (λ e. let f : c ∷ bs ≡ [] = other e in cc))

plain-open : (q b : ℕ) (bs : List ℕ) → (b ≡ 92 → bs ≡ []) → left_open q (b ∷ bs) ≡ left_open (quote_behind q b) bs
plain-open q b [] other = refl
plain-open q b (c ∷ bs) other =
    cond-false _ _ _ (ne_eqb b 92 (λ e. let f : c ∷ bs ≡ [] = other e in cc))

last-drop : (line : List ℕ) (i : ℕ) → length line ≤ i → drop i line ≡ []
last-drop line i h = drop_of_length-le line h

pub signs-plain : (names : Bool) (q : ℕ) (line : List ℕ) (i : ℕ) → i < length line → (get_or line i 0 ≡ 92 → length line ≤ i + 1) → signs names q (drop i line) ≡ sign_of q (get_or line i 0) ∷ signs names (quote_behind q (get_or line i 0)) (drop (i + 1) line)
signs-plain names q line i h other = ap (signs names q) (more line i h) ∙ plain-signs names q (get_or line i 0) (drop (i + 1) line) (λ e. last-drop line (i + 1) (other e))

pub open-plain : (q : ℕ) (line : List ℕ) (i : ℕ) → i < length line → (get_or line i 0 ≡ 92 → length line ≤ i + 1) → left_open q (drop i line) ≡ left_open (quote_behind q (get_or line i 0)) (drop (i + 1) line)
open-plain q line i h other = ap (left_open q) (more line i h) ∙ plain-open q (get_or line i 0) (drop (i + 1) line) (λ e. last-drop line (i + 1) (other e))

pub more_signs : (ss : List Sign) (i : ℕ) → i < length ss → drop i ss ≡ get_or ss i Blank ∷ drop (i + 1) ss
more_signs ss i h = grind (arith, drop-cons)

-- a sign more was read
pub one-more : (out new rest all : List Sign) (s : Sign) → new ≡ out ++ s ∷ [] → out ++ (s ∷ rest) ≡ all → new ++ rest ≡ all
one-more out new rest all s e h = ap (λ x. x ++ rest) e ∙ append_assoc out (s ∷ []) rest ∙ h

pub pushed-size : (out new : List Sign) (s : Sign) → new ≡ out ++ s ∷ [] → length new ≡ length out + 1
pushed-size out new s e = ap length e ∙ length-append out (s ∷ [])
