-- What a word says meets the limit of its kind.
use Rattle.std.proofs.Common.{◌≡◌, ℕ, ◌^◌, ◌<◌, ◌==◌, ◌⊎◌, inl, inr, Bool, true, false, cond, not, ◌&&◌, ◌||◌, List, [], ◌∷◌, Result, Ok, Err, length, nat_le, refl, ap, sym, subst, ◌∙◌, arith}
use Rattle.std.specs.List.{list_all}
use Rattle.std.specs.Str.Parse.{digits_value, AllDigits}
use Rattle.std.proofs.lemmas.Bool.{and_parts, or_cases}
use Rattle.std.proofs.lemmas.Bool.Decides.{nat_tests, Decides-eqb}
use Rattle.std.proofs.lemmas.Int.Digits.{digits_value-lt}
use Rattle.lr_rules.specs.declared.fault.ConfKind.{ConfKind}
use Rattle.lr_rules.specs.declared.fault.ConfKind.TheVariants as kind
use Rattle.lr_rules.specs.declared.rule.Count.{Count}
use Rattle.lr_rules.specs.declared.rule.Count.TheVariants as count
use Rattle.lr_rules.specs.Limits.{is_small, is_size, is_mode, is_count}
use Rattle.lr_words.specs.Numbers.{is_number, number_of, number_value, is_minus_one, keep_value, count_value, weekday_value, size_digits, size_bytes, size_value, is_octal, is_mode_text, mode_value}
use Rattle.lr_words.proofs.Numbers.{octal_of}

-- a value behind two tests, the second of which is its limit
behind_tests : (p : ℕ → Bool) (value n : ℕ) (one two : ConfKind) (a b : Bool) → p value ≡ b → cond (not a) (Err one) (cond (not b) (Err two) (Ok value)) ≡ Ok n → p n ≡ true
behind_tests p value n one two false b at h = absurd (cc)
behind_tests p value n one two true false at h = absurd (cc)
behind_tests p value n one two true true at h = let same : value ≡ n = cc in ap p (sym same) ∙ at

pub number_meets : (word : List ℕ) (n : ℕ) → number_value word ≡ Ok n → is_small n ≡ true
unfolding number_value
number_meets word n h = behind_tests is_small (number_of word) n kind.BadNumber kind.TooLarge (is_number word) (is_small (number_of word)) refl h

pub size_meets : (word : List ℕ) (n : ℕ) → size_value word ≡ Ok n → is_size n ≡ true
unfolding size_value
size_meets word n h = behind_tests is_size (size_bytes word) n kind.BadSize kind.TooLarge (is_number (size_digits word)) (is_size (size_bytes word)) refl h

pub weekday_meets : (word : List ℕ) (n : ℕ) → weekday_value word ≡ Ok n → nat_le n 7 ≡ true
unfolding weekday_value
weekday_meets word n h = by (is_number word) (nat_le (number_of word) 7) refl h
  where
    by : (a b : Bool) → nat_le (number_of word) 7 ≡ b → cond (a && b) (Ok (number_of word)) (Err kind.BadNumber) ≡ Ok n → nat_le n 7 ≡ true
    by false b at h = absurd (cc)
    by true false at h = absurd (cc)
    by true true at h = let same : number_of word ≡ n = cc in ap (λ x. nat_le x 7) (sym same) ∙ at

pub count_meets : (word : List ℕ) (c : Count) → count_value word ≡ Ok c → is_count c ≡ true
unfolding count_value
count_meets word c h = by (is_minus_one word) (number_value word) refl h
  where
    by : (all : Bool) (r : Result ℕ ConfKind) → number_value word ≡ r → cond all (Ok count.Always) (keep_value r) ≡ Ok c → is_count c ≡ true
    by true r at h = let same : count.Always ≡ c = cc in ap is_count (sym same)
    by false (Ok n) at h = let same : count.Keep n ≡ c = cc in ap is_count (sym same) ∙ number_meets word n at
    by false (Err k) at h = absurd (cc)

octal_digits : (ds : List ℕ) → list_all is_octal ds ≡ true → AllDigits 8 ds
octal_digits [] h = tt
octal_digits (d ∷ ds) h =
    let p = and_parts (is_octal d) (list_all is_octal ds) h in
    let o = octal_of d p.0 in
    (omega (arith, o.0, o.1, o.2), octal_digits ds p.1)

pub mode_meets : (word : List ℕ) (n : ℕ) → mode_value word ≡ Ok n → is_mode n ≡ true
unfolding mode_value
mode_meets word n h = by (is_mode_text word) refl h
  where
    bits : (k : ℕ) → length word ≡ k → (k == 3 || k == 4) ≡ true → list_all is_octal word ≡ true → nat_le (digits_value 8 word) 4095 ≡ true
    bits k at short all = by_length (or_cases (k == 3) (k == 4) short)
      where
        below : (j : ℕ) → length word ≡ j → digits_value 8 word < 8 ^ j
        below j e = subst (λ i. digits_value 8 word < 8 ^ i) e (digits_value-lt 8 word (octal_digits word all))

        by_length : ((k == 3) ≡ true) ⊎ ((k == 4) ≡ true) → nat_le (digits_value 8 word) 4095 ≡ true
        by_length (inl e) = let b : digits_value 8 word < 8 ^ 3 = below 3 (at ∙ (Decides-eqb k 3).0 e) in grind (arith, nat_tests)
        by_length (inr e) = let b : digits_value 8 word < 8 ^ 4 = below 4 (at ∙ (Decides-eqb k 4).0 e) in grind (arith, nat_tests)

    by : (is : Bool) → is_mode_text word ≡ is → cond is (Ok (digits_value 8 word)) (Err kind.BadMode) ≡ Ok n → is_mode n ≡ true
    by false at e = absurd (cc)
    by true at e =
        let same : digits_value 8 word ≡ n = cc in
        let p = and_parts (length word == 3 || length word == 4) (list_all is_octal word) at in
        ap (λ x. nat_le x 4095) (sym same) ∙ bits (length word) refl p.0 p.1
