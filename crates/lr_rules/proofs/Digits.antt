-- Numbers as they are written: runs of digits, among which no slash stands.
use Rattle.std.proofs.Common.{◌≡◌, ℕ, ◌+◌, ◌%◌, ◌≤◌, ◌<◌, ◌^◌, Bool, true, false, List, [], ◌∷◌, ◌++◌, refl, subst, arith, length-append, nat_eq, eqb-true, ◌&&◌, ◌∙◌, ap}
use Rattle.std.specs.Prelude.{decimal, nat_le}
use Rattle.std.specs.List.{list_any}
use Rattle.std.specs.Char.{digit_value}
use Rattle.std.specs.Str.Parse.{AllDigits}
use Rattle.std.proofs.lemmas.Bool.{or_from, le-leb}
use Rattle.std.proofs.lemmas.Fmt.{decimal_by_steps, decimal_is_IsNumeral}
use Rattle.std.proofs.lemmas.List.Elements.{All-cons, All-append}
use Rattle.lr_rules.specs.Names.{IsRun, AreDigits}
use Rattle.lr_rules.specs.Path.{is_slash}
use Rattle.lr_rules.specs.Bytes.{is_digit}

abbrev pub IsDigit : ℕ → Type 0
IsDigit d = (48 ≤ d) × (d ≤ 57)

pub one_digit : (d : ℕ) → d < 10 → AreDigits ((48 + d) ∷ [])
one_digit d lt = All-cons IsDigit (48 + d) [] (omega arith, omega arith) (λ k x le. absurd (omega arith))

-- a number is written as a run of digits
pub decimal_run : (n : ℕ) → n < 2 ^ 64 → IsRun (decimal n)
decimal_run n lt = decimal_by_steps (λ n ds. IsRun ds) (λ d small. (omega arith, one_digit d small)) more n lt
  where
    more : (n : ℕ) (ds : List ℕ) → 10 ≤ n → IsRun ds → IsRun (ds ++ ((48 + n % 10) ∷ []))
    more n ds big r = (omega (arith, length-append ds ((48 + n % 10) ∷ [])), All-append IsDigit ds ((48 + n % 10) ∷ []) r.1 (one_digit (n % 10) (omega arith)))

pub digits_plain : (ds : List ℕ) → AllDigits 10 ds → list_any is_slash ds ≡ false
digits_plain [] all = refl
digits_plain (d ∷ ds) all = or_from (is_slash d) (list_any is_slash ds) (other d all.0) (digits_plain ds all.1)
  where
    slash : (d : ℕ) (b : Bool) → nat_eq d 47 ≡ b → digit_value d < 10 → b ≡ false
    slash d true e lt = let v : digit_value 47 < 10 = subst (λ x. digit_value x < 10) (eqb-true d 47 e) lt in absurd (omega arith)
    slash d false e lt = refl

    other : (d : ℕ) → digit_value d < 10 → is_slash d ≡ false
    other d lt = slash d (nat_eq d 47) refl lt

pub decimal_plain : (n : ℕ) → n < 2 ^ 64 → list_any is_slash (decimal n) ≡ false
decimal_plain n lt = digits_plain (decimal n) (decimal_is_IsNumeral n lt).0.1

pub digit_is : (d : ℕ) → IsDigit d → is_digit d ≡ true
digit_is d r = ap (λ b. b && nat_le d 57) (le-leb 48 d r.0) ∙ le-leb d 57 r.1
