-- Plain numbers.
use Rattle.std.proofs.Common.{◌≡◌, ℕ, zero, suc, ◌<◌, ◌≤◌, ◌^◌, Bool, true, false, ◌&&◌, cond, List, [], ◌∷◌, length, drop, get_or, refl, sym, ap, ◌∙◌, subst, arith, Result, Ok, Err, nat_le, eqb-true}
use Rattle.std.specs.Prelude.{decimal, ◌==◌, IsUtf8}
use Rattle.std.specs.Str.Parse.{ParsesUnsigned, IsNumeral, AllDigits, digits_value, without_leading_plus}
use Rattle.std.proofs.lemmas.Str.Parse.{IsNumeralModel, numerals_by_value, tells_digits}
use Rattle.std.proofs.Math.Nat.{pow-le-pow_right}
use Rattle.std.proofs.lemmas.Int.Digits.{digits_value-lt}
use Rattle.std.proofs.lemmas.Fmt.{length-decimal-le, decimal-digits_value, decimal_digit, decimal_is_IsNumeral, parse-decimal, first_decimal, IsAscii-decimal}
use Rattle.std.proofs.lemmas.Bool.Decides.{nat_tests}
use Rattle.std.proofs.lemmas.Str.{IsUtf8-from_ascii}
use Rattle.std.specs.Char.{digit_value}
use Rattle.lr_stamps.specs.Asked.{is_plain}

own : IsNumeralModel (AllDigits 10) (digits_value 10)
own = numerals_by_value (AllDigits 10) tells_digits

plain_first : (ds : List ℕ) → is_plain ds ≡ true → (0 < length ds) × (48 ≤ get_or ds 0 0) × (get_or ds 0 0 ≡ 48 → length ds ≡ 1)
plain_first [] h = absurd (cc)
plain_first (d ∷ []) h = (omega arith, low d h, λ e. refl)
  where
    low : (d : ℕ) → (nat_le 48 d && nat_le d 57) ≡ true → 48 ≤ d
    low d h = grind (arith, nat_tests)
plain_first (d ∷ e ∷ ds) h = let above : 49 ≤ d = low d h in (omega arith, omega arith, λ z. absurd (omega arith))
  where
    low : (d : ℕ) → (nat_le 49 d && nat_le d 57) ≡ true → 49 ≤ d
    low d h = grind (arith, nat_tests)

no_plus : (ds : List ℕ) → is_plain ds ≡ true → without_leading_plus ds ≡ ds
no_plus [] h = absurd (cc)
no_plus (d ∷ ds) h = go (d == 43) refl
  where
    go : (b : Bool) → (d == 43) ≡ b → drop (cond b 1 0) (d ∷ ds) ≡ d ∷ ds
    go true e = let is : d ≡ 43 = eqb-true d 43 e in let low : 48 ≤ d = (plain_first (d ∷ ds) h).1 in absurd (omega arith)
    go false e = refl

ten : 0 < 10
ten = omega arith

small_value : (ds : List ℕ) → AllDigits 10 ds → length ds ≤ 12 → digits_value 10 ds < 1000000000000
small_value ds all l = let i : digits_value 10 ds < 10 ^ length ds = digits_value-lt 10 ds all in let j : 10 ^ length ds ≤ 10 ^ 12 = pow-le-pow_right {n = 10} ten l in omega arith

as_number : (ds : List ℕ) (n : ℕ) → (IsNumeral 10 (without_leading_plus ds) × (digits_value 10 (without_leading_plus ds) < 2 ^ 64)) × (n ≡ digits_value 10 (without_leading_plus ds)) → is_plain ds ≡ true → length ds ≤ 12 → (n < 1000000000000) × (ds ≡ decimal n)
as_number ds n q plain short =
    let same : without_leading_plus ds ≡ ds = no_plus ds plain in
    let first = plain_first ds plain in
    let numeral : IsNumeral 10 ds = subst (IsNumeral 10) same q.0.0 in
    let value : n ≡ digits_value 10 ds = q.1 ∙ ap (digits_value 10) same in
    let small : digits_value 10 ds < 1000000000000 = small_value ds numeral.1 short in
    let text : decimal (digits_value 10 ds) ≡ ds = decimal-digits_value own ds numeral.1 numeral.0 first.2 (omega arith) in
    (omega (arith, value, small), sym (ap decimal value ∙ text))

-- a plain number that was parsed
pub parsed : {E : Type 0} (ds bs : List ℕ) (r : Result ℕ E) (n : ℕ) → ParsesUnsigned 64 10 bs r → r ≡ Ok n → bs ≡ ds → is_plain ds ≡ true → length ds ≤ 12 → (n < 1000000000000) × (ds ≡ decimal n)
parsed {E} ds bs r n p is same plain short =
    as_number ds n (subst (λ (s : Result ℕ E). ParsesUnsigned 64 10 ds s) is (subst (λ (xs : List ℕ). ParsesUnsigned 64 10 xs r) same p)) plain short

-- the text of a number is text, is short, is parsed, and is plain
pub number_text : (n : ℕ) (bs : List ℕ) → n < 1000000000000 → bs ≡ decimal n → IsUtf8 bs
number_text n bs i e = subst IsUtf8 (sym e) (IsUtf8-from_ascii (decimal n) (IsAscii-decimal n (omega arith)))

pub number_short : (n : ℕ) (bs : List ℕ) → n < 1000000000000 → bs ≡ decimal n → length bs ≤ 12
number_short n bs i e = let l : length (decimal n) ≤ 12 = length-decimal-le 12 n (omega arith) (omega arith) (omega arith) in omega (arith, ap length e)

pub number_parsed : {E : Type 0} (n : ℕ) (bs : List ℕ) (r : Result ℕ E) (f : E) → n < 1000000000000 → bs ≡ decimal n → ParsesUnsigned 64 10 bs r → r ≡ Err f → ⊥
number_parsed n bs r f i e p is = let ok : r ≡ Ok n = parse-decimal 64 n bs r (omega arith) (omega arith) e p in cc

digit_above : (d : ℕ) → digit_value d < 10 → 48 < d → (nat_le 49 d && nat_le d 57) ≡ true
digit_above d small low = let top : d ≤ 57 = grind (arith, nat_tests) in grind (arith, nat_tests)

digit_alone : (d : ℕ) → digit_value d < 10 → 48 < d → (nat_le 48 d && nat_le d 57) ≡ true
digit_alone d small low = let top : d ≤ 57 = grind (arith, nat_tests) in grind (arith, nat_tests)

digits_plain : (ds : List ℕ) → AllDigits 10 ds → 48 < get_or ds 0 0 → is_plain ds ≡ true
digits_plain [] all low = absurd (omega arith)
digits_plain (d ∷ []) all low = digit_alone d all.0 low
digits_plain (d ∷ e ∷ ds) all low = digit_above d all.0 low

decimal_plain : (n : ℕ) → n < 1000000000000 → is_plain (decimal n) ≡ true
decimal_plain zero i = ap is_plain (decimal_digit 0 (omega arith))
decimal_plain (suc n) i = digits_plain (decimal (suc n)) (decimal_is_IsNumeral (suc n) (omega arith)).0.1 (first_decimal (suc n) (omega arith) (omega arith))

pub number_plain : (n : ℕ) (bs : List ℕ) → n < 1000000000000 → bs ≡ decimal n → is_plain bs ≡ true
number_plain n bs i e = ap is_plain e ∙ decimal_plain n i
