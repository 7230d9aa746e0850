-- The brace at the end of a line's signs.
use Rattle.std.proofs.Common.{◌≡◌, ℕ, zero, suc, ◌+◌, ◌-◌, ◌<◌, Bool, true, false, cond, ◌&&◌, ◌||◌, List, [], ◌∷◌, ◌++◌, length, take, drop, get_or, refl, ap, sym, subst, ◌∙◌, arith, eqb-true, take-append-drop}
use Rattle.std.specs.Prelude.{IsUtf8}
use Rattle.std.proofs.lemmas.Bool.{and_parts, and_right}
use Rattle.std.specs.List.{list_all}
use Rattle.lr_lex.specs.declared.sign.Sign.{Sign}
use Rattle.lr_lex.specs.declared.sign.Sign.TheVariants.{Blank, Mark, Plain, Quoted}
use Rattle.lr_lex.specs.Words.{is_gap, is_open, is_plain_byte, opens, before_open}
use Rattle.lr_lex.specs.Scanning.{sign_byte, sign_bytes, InkEnds}
use Rattle.std.proofs.lemmas.Str.{IsUtf8-append}
use Rattle.lr_lex.proofs.Ascii.{utf8_around, one_text}
use Rattle.lr_lex.proofs.SignsOf.{more_signs}

-- a sign that is no blank is among them
not-all : (ss : List Sign) (k : ℕ) → k < length ss → is_gap (get_or ss k Blank) ≡ false → list_all is_gap ss ≡ false
not-all [] k lt ink = absurd (omega arith)
not-all (s ∷ ss) zero lt ink = ap (λ b. b && list_all is_gap ss) ink
not-all (s ∷ ss) (suc k) lt ink = ap (λ b. is_gap s && b) (not-all ss k (omega arith) ink) ∙ and_right (is_gap s) false refl

plain-ink : (s : Sign) (b : ℕ) → is_plain_byte b s ≡ true → is_gap s ≡ false
plain-ink Blank b e = absurd (cc)
plain-ink Mark b e = absurd (cc)
plain-ink (Plain c) b e = refl
plain-ink (Quoted c) b e = absurd (cc)

pub plain-byte : (s : Sign) (b : ℕ) → is_plain_byte b s ≡ true → sign_byte s ≡ b
plain-byte Blank b e = absurd (cc)
plain-byte Mark b e = absurd (cc)
plain-byte (Plain c) b e = eqb-true c b e
plain-byte (Quoted c) b e = absurd (cc)

gap-shut : (s : Sign) → is_gap s ≡ true → is_open s ≡ false
gap-shut Blank e = refl
gap-shut Mark e = absurd (cc)
gap-shut (Plain b) e = absurd (cc)
gap-shut (Quoted b) e = absurd (cc)

pub record Cuts (ss : List Sign) (opened : Bool) (front : List Sign) : Type 0 where
  pub brace : opens ss ≡ opened
  pub signs : before_open ss ≡ front

step-on : (s : Sign) (ss front : List Sign) (opened : Bool) → (is_open s && list_all is_gap ss) ≡ false → Cuts ss opened front → Cuts (s ∷ ss) opened (s ∷ front)
step-on s ss front opened other c = record {
  brace = ap (λ b. b || opens ss) other ∙ c.brace;
  signs = ap (λ b. cond b [] (s ∷ before_open ss)) other ∙ ap (λ l. s ∷ l) c.signs;
}

pub cut-open : (ss : List Sign) (k : ℕ) → k < length ss → is_open (get_or ss k Blank) ≡ true → list_all is_gap (drop (suc k) ss) ≡ true → Cuts ss true (take k ss)
cut-open [] k lt at blanks = absurd (omega arith)
cut-open (s ∷ ss) zero lt at blanks =
    let both : (is_open s && list_all is_gap ss) ≡ true = ap (λ b. b && list_all is_gap ss) at ∙ blanks in
    record { brace = ap (λ b. b || opens ss) both; signs = ap (λ b. cond b [] (s ∷ before_open ss)) both }
cut-open (s ∷ ss) (suc k) lt at blanks =
    let ink : list_all is_gap ss ≡ false = not-all ss k (omega arith) (plain-ink (get_or ss k Blank) 123 at) in
    let other : (is_open s && list_all is_gap ss) ≡ false = ap (λ b. is_open s && b) ink ∙ and_right (is_open s) false refl in
    step-on s ss (take k ss) true other (cut-open ss k (omega arith) at blanks)

shut-and : (s : Sign) (b : Bool) → is_open s ≡ false → (is_open s && b) ≡ false
shut-and s b e = ap (λ x. x && b) e

cut-blanks : (ss : List Sign) → list_all is_gap ss ≡ true → Cuts ss false ss
cut-blanks [] blanks = record { brace = refl; signs = refl }
cut-blanks (s ∷ ss) blanks =
    step-on s ss ss false (shut-and s (list_all is_gap ss) (gap-shut s (and_parts (is_gap s) (list_all is_gap ss) blanks).0))
    (cut-blanks ss (and_parts (is_gap s) (list_all is_gap ss) blanks).1)

cut-ink : (ss : List Sign) (k : ℕ) → k < length ss → is_gap (get_or ss k Blank) ≡ false → is_open (get_or ss k Blank) ≡ false → list_all is_gap (drop (suc k) ss) ≡ true → Cuts ss false ss
cut-ink [] k lt ink shut blanks = absurd (omega arith)
cut-ink (s ∷ ss) zero lt ink shut blanks = step-on s ss ss false (shut-and s (list_all is_gap ss) shut) (cut-blanks ss blanks)
cut-ink (s ∷ ss) (suc k) lt ink shut blanks =
    let some : list_all is_gap ss ≡ false = not-all ss k (omega arith) ink in
    let other : (is_open s && list_all is_gap ss) ≡ false = ap (λ b. is_open s && b) some ∙ and_right (is_open s) false refl in
    step-on s ss ss false other (cut-ink ss k (omega arith) ink shut blanks)

-- ---- by the end of what is no blank

blanks-behind : (ss : List Sign) (end k : ℕ) → k + 1 ≡ end → list_all is_gap (drop end ss) ≡ true → list_all is_gap (drop (suc k) ss) ≡ true
blanks-behind ss end k is blanks = let e : end ≡ suc k = omega arith in subst (λ n. list_all is_gap (drop n ss) ≡ true) e blanks

pub at_open : (ss : List Sign) (end : ℕ) → InkEnds ss end → 0 < end → is_open (get_or ss (end - 1) Blank) ≡ true → Cuts ss true (take (end - 1) ss)
at_open ss end i some at =
    let within : end - 1 < length ss = omega (arith, i.within) in
    cut-open ss (end - 1) within at (blanks-behind ss end (end - 1) (omega arith) i.blanks)

pub at_other : (ss : List Sign) (end : ℕ) → InkEnds ss end → 0 < end → is_open (get_or ss (end - 1) Blank) ≡ false → Cuts ss false ss
at_other ss end i some shut =
    let within : end - 1 < length ss = omega (arith, i.within) in
    cut-ink ss (end - 1) within (i.ink (end - 1) (omega arith)) shut (blanks-behind ss end (end - 1) (omega arith) i.blanks)

pub at_none : (ss : List Sign) (end : ℕ) → InkEnds ss end → end ≡ 0 → Cuts ss false ss
at_none ss end i none = cut-blanks ss (subst (λ n. list_all is_gap (drop n ss) ≡ true) none i.blanks)

pub whole : (ss : List Sign) (k : ℕ) → k < length ss → take k ss ++ get_or ss k Blank ∷ drop (k + 1) ss ≡ ss
whole ss k lt = ap (λ l. take k ss ++ l) (sym (more_signs ss k lt)) ∙ take-append-drop k ss

-- the signs before and behind a byte below 128 are of texts
pub utf8_parts : (ss : List Sign) (k b : ℕ) → k < length ss → b < 128 → is_plain_byte b (get_or ss k Blank) ≡ true → IsUtf8 (sign_bytes ss) → IsUtf8 (sign_bytes (take k ss)) × IsUtf8 (sign_bytes (drop (k + 1) ss))
utf8_parts ss k b lt small is u =
    let e : sign_byte (get_or ss k Blank) ≡ b = plain-byte (get_or ss k Blank) b is in
    utf8_around (take k ss) (drop (k + 1) ss) (get_or ss k Blank) (omega (arith, e))
    (subst (λ l. IsUtf8 (sign_bytes l)) (sym (whole ss k lt)) u)

pub utf8_from : (ss : List Sign) (k b : ℕ) → k < length ss → b < 128 → is_plain_byte b (get_or ss k Blank) ≡ true → IsUtf8 (sign_bytes ss) → IsUtf8 (sign_bytes (drop k ss))
utf8_from ss k b lt small is u =
    let e : sign_byte (get_or ss k Blank) ≡ b = plain-byte (get_or ss k Blank) b is in
    let rest : IsUtf8 (sign_bytes (drop (k + 1) ss)) = (utf8_parts ss k b lt small is u).1 in
    let all : IsUtf8 (b ∷ sign_bytes (drop (k + 1) ss)) = IsUtf8-append (b ∷ []) (sign_bytes (drop (k + 1) ss)) (one_text b small) rest in
    subst IsUtf8 (ap (λ x. x ∷ sign_bytes (drop (k + 1) ss)) (sym e) ∙ ap sign_bytes (sym (more_signs ss k lt))) all
