-- Numbers of digits.
use Rattle.std.proofs.Common.{◌≡◌, ℕ, zero, suc, ◌-◌, ◌<◌, ◌≤◌, Bool, true, not, List, [], ◌∷◌, length, get_or, arith}
use Rattle.std.specs.List.{list_all}
use Rattle.std.specs.Char.{digit_value}
use Rattle.std.proofs.lemmas.Bool.{and_parts}
use Rattle.std.proofs.lemmas.Bool.Decides.{nat_tests}
use Rattle.lr_rules.specs.Bytes.{is_digit}
use Rattle.lr_rules.specs.Path.{is_empty}
use Rattle.lr_words.specs.Numbers.{is_octal, is_number}

-- a digit's code and value
pub digit_of : (c : ℕ) → is_digit c ≡ true → (48 ≤ c) × (c ≤ 57) × (digit_value c ≡ c - 48)
digit_of c h = (grind (arith, nat_tests), grind (arith, nat_tests), grind (arith, nat_tests))

pub octal_of : (c : ℕ) → is_octal c ≡ true → (48 ≤ c) × (c ≤ 55) × (digit_value c ≡ c - 48)
octal_of c h = (grind (arith, nat_tests), grind (arith, nat_tests), grind (arith, nat_tests))

-- what holds of each byte holds of that at a place
pub at_place : (p : ℕ → Bool) (ds : List ℕ) (i : ℕ) → list_all p ds ≡ true → i < length ds → p (get_or ds i 0) ≡ true
at_place p [] i h lt = absurd (omega arith)
at_place p (d ∷ ds) zero h lt = (and_parts (p d) (list_all p ds) h).0
at_place p (d ∷ ds) (suc i) h lt = at_place p ds i (and_parts (p d) (list_all p ds) h).1 (omega arith)

pub digits_of : (text : List ℕ) → is_number text ≡ true → list_all is_digit text ≡ true
unfolding is_number
digits_of text h = (and_parts (not (is_empty text)) (list_all is_digit text) h).1
