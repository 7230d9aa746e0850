-- How many steps a walk takes.
use Rattle.std.proofs.Common.{◌≡◌, ℕ, ◌+◌, ◌*◌, ◌<◌, ◌≤◌, Bool, true, false, List, ◌∷◌, length, length-append, ap, ◌∙◌, arith}
use Rattle.std.proofs.Math.Nat.{mul-add, mul-le-mul_left, mul-le-mul_right, mul-le-mul, mul_assoc}
use Rattle.std.specs.Str.{chars}
use Rattle.lr_rules.specs.Match.{IsClass}
use Rattle.lr_match.specs.declared.sign.Sign.{Sign}
use Rattle.lr_match.specs.Classes.{spare, signs_of}
use Rattle.lr_match.specs.Reached.{reach_steps}
use Rattle.lr_match.specs.Signs.{BeginsWithSign, length_of_sign}

pub spare_most : (t : Bool) (m : ℕ) → spare t m ≤ m
spare_most true m = omega arith
spare_most false m = omega arith

class_length : (part : List ℕ) (t : Bool) (signs rest : List ℕ) → IsClass part t signs rest → length signs + length rest < length part
class_length part _ _ _ (IsClass.straight a more rest n o e) = let l = ap length e in let m = length-append more (93 ∷ rest) in omega (arith, l, m)
class_length part _ _ _ (IsClass.turned a more rest o e) = let l = ap length e in let m = length-append more (93 ∷ rest) in omega (arith, l, m)

-- what a sign is asked for is paid for by its own length
pub sign_length : (text : List ℕ) (s : Sign) (rest : List ℕ) → BeginsWithSign text s rest → length_of_sign s + 3 * length rest ≤ 3 * length text
sign_length text _ _ (BeginsWithSign.run rest e) = let l = ap length e in omega (arith, l)
sign_length text _ _ (BeginsWithSign.one rest e) = let l = ap length e in omega (arith, l)
sign_length text _ _ (BeginsWithSign.itself c rest e plain) = let l = ap length e in omega (arith, l)
sign_length text _ _ (BeginsWithSign.escaped c rest e) = let l = ap length e in omega (arith, l)
sign_length text _ _ (BeginsWithSign.of_class k part rest e is) = let l = ap length e in let m = class_length part k.turned (signs_of (chars k.signs.now)) rest is in omega (arith, l, m)

-- ---- tries

pub try_fits : (a m : ℕ) (t : Bool) → a ≤ m → 6 * a + 3 + spare t (m + 2) ≤ reach_steps m
try_fits a m t le = let s = spare_most t (m + 2) in omega (arith, s, le)

pub tried_stuck : (t top s0 s1 s2 a sp k k' : ℕ) → s0 + 8 * a + sp + t * k ≤ top → s1 ≤ s0 + 6 * a + 2 + sp → s2 ≡ s1 + 1 → 6 * a + 3 + sp ≤ t → k ≡ k' + 1 → s2 + 8 * a + sp + t * k' ≤ top
tried_stuck t top s0 s1 s2 a sp k k' h few one fits more = let d = ap (λ x. t * x) more ∙ mul-add t k' 1 in omega (arith, d, h, few, one, fits)

pub tried_run : (t top s0 s1 a b sp sp' k k' : ℕ) → s0 + 8 * a + sp + t * k ≤ top → s1 + 6 * b + sp' ≤ s0 + 6 * a + 2 + sp → b < a → k' ≤ k → s1 + 8 * b + sp' + t * k' ≤ top
tried_run t top s0 s1 a b sp sp' k k' h few shorter le = let d = mul-le-mul_left t le in omega (arith, d, h, few, shorter)

pub tried_last : (t top s0 s1 a sp sp' k n : ℕ) → s0 + 8 * a + sp + t * k ≤ top + t * n → s1 + sp' ≤ s0 + 6 * a + 2 + sp → 6 * a + 3 + sp ≤ t → s1 + 1 ≤ top + t * (n + 1)
tried_last t top s0 s1 a sp sp' k n h few fits = let d = mul-add t n 1 in omega (arith, d, h, few, fits)

-- ---- the whole

-- a shorter pattern over a shorter name
pub tries_fit : (a m k n : ℕ) → a ≤ m → k ≤ n → reach_steps a * k ≤ reach_steps m * n
tries_fit a m k n la lk = let h : 7 * a + 5 ≤ 7 * m + 5 = omega (arith, la) in mul-le-mul h lk

pub rest_fits : (m b n k s0 s1 s2 sp : ℕ) → b < m → k ≤ n → s1 + 6 * b + sp ≤ s0 + 6 * m + 2 + (m + 2) → s2 ≤ s1 + 8 * b + sp + reach_steps m * (k + 1) → s2 ≤ s0 + 9 * m + 4 + reach_steps m * (n + 1)
rest_fits m b n k s0 s1 s2 sp lt le first second =
    let h : k + 1 ≤ n + 1 = omega (arith, le) in
    let d : reach_steps m * (k + 1) ≤ reach_steps m * (n + 1) = mul-le-mul_left (reach_steps m) h in
    let x : ℕ = reach_steps m * (k + 1) in
    let y : ℕ = reach_steps m * (n + 1) in
    sums x y d second
  where
    sums : (x y : ℕ) → x ≤ y → s2 ≤ s1 + 8 * b + sp + x → s2 ≤ s0 + 9 * m + 4 + y
    sums x y d h = omega (arith, d, h, first, lt)

pub dot_fits : (m a b n s0 s1 s2 s3 sp sp' : ℕ) → a ≤ m → b < a → s1 + 2 * a + sp ≤ s0 + 2 * m + (m + 2) → s2 + b + sp' ≤ s1 + a + 1 + sp → s3 ≤ s2 + 9 * b + 4 + reach_steps b * (n + 1) → s3 ≤ s0 + 12 * m + 6 + reach_steps m * (n + 1)
dot_fits m a b n s0 s1 s2 s3 sp sp' le lt before now rest =
    let d : reach_steps b * (n + 1) ≤ reach_steps m * (n + 1) = tries_fit b m (n + 1) (n + 1) (omega (arith, le, lt)) (omega arith) in
    sums (reach_steps b * (n + 1)) (reach_steps m * (n + 1)) d rest
  where
    sums : (x y : ℕ) → x ≤ y → s3 ≤ s2 + 9 * b + 4 + x → s3 ≤ s0 + 12 * m + 6 + y
    sums x y d h = omega (arith, d, h, before, now, le, lt)

pub all_steps : (m n : ℕ) → 12 * m + 7 + reach_steps m * (n + 1) ≤ 19 * ((m + 1) * (n + 1))
all_steps m n =
    let one : 1 ≤ n + 1 = omega arith in
    let first : (m + 1) * 1 ≤ (m + 1) * (n + 1) = mul-le-mul_left (m + 1) one in
    let short : 7 * m + 5 ≤ 7 * (m + 1) = omega arith in
    let rest : (7 * m + 5) * (n + 1) ≤ 7 * (m + 1) * (n + 1) = mul-le-mul_right (n + 1) short in
    let same : 7 * (m + 1) * (n + 1) ≡ 7 * ((m + 1) * (n + 1)) = mul_assoc 7 (m + 1) (n + 1) in
    sums ((m + 1) * (n + 1)) (reach_steps m * (n + 1)) (7 * (m + 1) * (n + 1)) first rest same
  where
    sums : (p x y : ℕ) → (m + 1) * 1 ≤ p → x ≤ y → y ≡ 7 * p → 12 * m + 7 + x ≤ 19 * p
    sums p x y first rest same = omega (arith, first, rest, same)

pub dotted_steps : (m n k s0 s1 s2 : ℕ) → n ≡ k + 1 → s1 ≡ s0 + 1 → s2 ≤ s1 + 12 * m + 6 + reach_steps m * (k + 1) → s2 ≤ s0 + 19 * ((m + 1) * (n + 1))
dotted_steps m n k s0 s1 s2 is one few =
    let le : k + 1 ≤ n + 1 = omega (arith, is) in
    sums (reach_steps m * (k + 1)) (reach_steps m * (n + 1)) (19 * ((m + 1) * (n + 1))) (mul-le-mul_left (reach_steps m) le) few (all_steps m n)
  where
    sums : (x y z : ℕ) → x ≤ y → s2 ≤ s1 + 12 * m + 6 + x → 12 * m + 7 + y ≤ z → s2 ≤ s0 + z
    sums x y z d h all = omega (arith, d, h, all, one)

pub plain_steps : (m n s0 s1 s2 : ℕ) → s1 ≡ s0 + 1 → s2 ≤ s1 + 9 * m + 4 + reach_steps m * (n + 1) → s2 ≤ s0 + 19 * ((m + 1) * (n + 1))
plain_steps m n s0 s1 s2 one few = sums (reach_steps m * (n + 1)) (19 * ((m + 1) * (n + 1))) few (all_steps m n)
  where
    sums : (y z : ℕ) → s2 ≤ s1 + 9 * m + 4 + y → 12 * m + 7 + y ≤ z → s2 ≤ s0 + z
    sums y z h all = omega (arith, h, all, one)

-- where a dot goes with no sign
pub early : (m a b s0 s1 s2 sp sp' t : ℕ) → a ≤ m → s1 + 2 * a + sp ≤ s0 + 2 * m + (m + 2) → s2 + b + sp' ≤ s1 + a + 1 + sp → s2 ≤ s0 + 12 * m + 6 + t
early m a b s0 s1 s2 sp sp' t le before now = omega (arith, le, before, now)
