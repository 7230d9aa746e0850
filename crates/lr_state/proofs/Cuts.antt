-- Where a list is cut: at the first element that passes a test.
use Rattle.lr_state.specs.Reading.{before, from_first}
use Rattle.std.proofs.Common.{◌≡◌, ◌∙◌, ap, refl, ℕ, ◌≤◌, Bool, true, false, not, cond, List, [], ◌∷◌, length, take, drop, Some, None, arith, suc, ◌+◌}
use Rattle.std.specs.Prelude.{unwrap_or, position, nat_lt}
use Rattle.std.specs.List.{position_or_len, slice_split, onto_first}
use Rattle.std.proofs.lemmas.Bool.{ltb-false}
use Rattle.std.proofs.lemmas.List.Splits.{slice_split-cons_no}
use Rattle.std.proofs.lemmas.List.Sums.{prefix_len-le-length}

pub first-le : (p : ℕ → Bool) (xs : List ℕ) → position_or_len p xs ≤ length xs
first-le p xs = prefix_len-le-length (λ x. not (p x)) xs

by_found : (n len : ℕ) (b : Bool) → n ≤ len → nat_lt n len ≡ b → unwrap_or (cond b (Some n) None) len ≡ n
by_found n len true le e = refl
by_found n len false le e = omega (arith, ltb-false n len e)

pub unwrap_position : (p : ℕ → Bool) (xs : List ℕ) → unwrap_or (position p xs) (length xs) ≡ position_or_len p xs
unwrap_position p xs = by_found (position_or_len p xs) (length xs) (nat_lt (position_or_len p xs) (length xs)) (first-le p xs) refl

none_by : (p : ℕ → Bool) (x : ℕ) (xs : List ℕ) (b : Bool) → p x ≡ b → suc (length xs) ≤ cond (not b) (1 + position_or_len p xs) 0
    → (length xs ≤ position_or_len p xs → slice_split p xs ≡ xs ∷ []) → slice_split p (x ∷ xs) ≡ (x ∷ xs) ∷ []
none_by p x xs true e le next = absurd (omega arith)
none_by p x xs false e le next = slice_split-cons_no p x xs e ∙ ap (onto_first x) (next (omega arith))

-- where no element passes, the list is one part
pub split-none : (p : ℕ → Bool) (xs : List ℕ) → length xs ≤ position_or_len p xs → slice_split p xs ≡ xs ∷ []
split-none p [] le = refl
split-none p (x ∷ xs) le = none_by p x xs (p x) refl le (split-none p xs)

take_by : (p : ℕ → Bool) (x : ℕ) (xs : List ℕ) (b : Bool) → take (position_or_len p xs) xs ≡ before p xs → drop (position_or_len p xs) xs ≡ from_first p xs
    → (take (cond (not b) (1 + position_or_len p xs) 0) (x ∷ xs) ≡ cond b [] (x ∷ before p xs))
    × (drop (cond (not b) (1 + position_or_len p xs) 0) (x ∷ xs) ≡ cond b (x ∷ xs) (from_first p xs))
take_by p x xs true front back = (refl, refl)
take_by p x xs false front back =
    let e : 1 + position_or_len p xs ≡ suc (position_or_len p xs) = omega arith in
    (rw e (ap (λ t. x ∷ t) front), rw e back)

both : (p : ℕ → Bool) (xs : List ℕ) → (take (position_or_len p xs) xs ≡ before p xs) × (drop (position_or_len p xs) xs ≡ from_first p xs)
unfolding before from_first
both p [] = (refl, refl)
both p (x ∷ xs) = take_by p x xs (p x) (both p xs).0 (both p xs).1

pub take-first : (p : ℕ → Bool) (xs : List ℕ) → take (position_or_len p xs) xs ≡ before p xs
take-first p xs = (both p xs).0

pub drop-first : (p : ℕ → Bool) (xs : List ℕ) → drop (position_or_len p xs) xs ≡ from_first p xs
drop-first p xs = (both p xs).1
