-- Numbers as they are written are numbers of the grammar.
use Rattle.std.proofs.Common.{◌≡◌, refl, ℕ, ◌+◌, ◌*◌, ◌/◌, ◌%◌, ◌<◌, ◌≤◌, Bool, true, false, not, cond, List, [], ◌∷◌, arith, nat_lt}
use Rattle.std.specs.List.{list_all}
use Rattle.std.proofs.lemmas.Bool.{and_parts, and_from, ltb-true, ltb-false, le-leb, leb-true, eqb-true}
use Rattle.lr_rules.specs.Bytes.{is_digit, is_newline}
use Rattle.lr_state.specs.Grammar.{IsNumber}
use Rattle.lr_state.specs.Written.{decimal}

digit : (d : ℕ) → d < 10 → is_digit (48 + d) ≡ true
digit d small = and_from _ _ (le-leb 48 (48 + d) (omega arith)) (le-leb (48 + d) 57 (omega arith))

one : (n : ℕ) → n < 10 → IsNumber 1 ((48 + n) ∷ []) n
one n small = record { some = omega arith; few = omega arith; each = and_from _ _ (digit n small) refl; value = omega arith }

two : (n a b : ℕ) → a < 10 → b < 10 → n ≡ a * 10 + b → IsNumber 2 ((48 + a) ∷ (48 + b) ∷ []) n
two n a b x y e = record {
  some = omega arith;
  few = omega arith;
  each = and_from _ _ (digit a x) (and_from _ _ (digit b y) refl);
  value = omega arith;
}

three : (n a b c : ℕ) → a < 10 → b < 10 → c < 10 → n ≡ (a * 10 + b) * 10 + c → IsNumber 3 ((48 + a) ∷ (48 + b) ∷ (48 + c) ∷ []) n
three n a b c x y z e = record {
  some = omega arith;
  few = omega arith;
  each = and_from _ _ (digit a x) (and_from _ _ (digit b y) (and_from _ _ (digit c z) refl));
  value = omega arith;
}

four : (n a b c d : ℕ) → a < 10 → b < 10 → c < 10 → d < 10 → n ≡ ((a * 10 + b) * 10 + c) * 10 + d → IsNumber 4 ((48 + a) ∷ (48 + b) ∷ (48 + c) ∷ (48 + d) ∷ []) n
four n a b c d x y z w e = record {
  some = omega arith;
  few = omega arith;
  each = and_from _ _ (digit a x) (and_from _ _ (digit b y) (and_from _ _ (digit c z) (and_from _ _ (digit d w) refl)));
  value = omega arith;
}

wider : (k m n : ℕ) (ds : List ℕ) → k ≤ m → IsNumber k ds n → IsNumber m ds n
wider k m n ds le h = let few = h.few in record { some = h.some; few = omega arith; each = h.each; value = h.value }

pub decimal-two : (n : ℕ) → n < 100 → IsNumber 2 (decimal n) n
unfolding decimal
decimal-two n small = by (nat_lt n 10) (nat_lt n 100) refl refl
  where
    by : (a b : Bool) → nat_lt n 10 ≡ a → nat_lt n 100 ≡ b
        → IsNumber 2 (cond a ((48 + n) ∷ []) (cond b ((48 + n / 10) ∷ (48 + n % 10) ∷ [])
        (cond (nat_lt n 1000) ((48 + n / 100) ∷ (48 + n / 10 % 10) ∷ (48 + n % 10) ∷ [])
        ((48 + n / 1000) ∷ (48 + n / 100 % 10) ∷ (48 + n / 10 % 10) ∷ (48 + n % 10) ∷ [])))) n
    by true b x y = wider 1 2 n _ (omega arith) (one n (ltb-true n 10 x))
    by false true x y = two n (n / 10) (n % 10) (omega arith) (omega arith) (omega arith)
    by false false x y = let big = ltb-false n 100 y in absurd (omega arith)

pub decimal-four : (n : ℕ) → n < 10_000 → IsNumber 4 (decimal n) n
unfolding decimal
decimal-four n small = by (nat_lt n 10) (nat_lt n 100) (nat_lt n 1000) refl refl refl
  where
    by : (a b c : Bool) → nat_lt n 10 ≡ a → nat_lt n 100 ≡ b → nat_lt n 1000 ≡ c
        → IsNumber 4 (cond a ((48 + n) ∷ []) (cond b ((48 + n / 10) ∷ (48 + n % 10) ∷ [])
        (cond c ((48 + n / 100) ∷ (48 + n / 10 % 10) ∷ (48 + n % 10) ∷ [])
        ((48 + n / 1000) ∷ (48 + n / 100 % 10) ∷ (48 + n / 10 % 10) ∷ (48 + n % 10) ∷ [])))) n
    by true b c x y z = wider 1 4 n _ (omega arith) (one n (ltb-true n 10 x))
    by false true c x y z = let lt = ltb-true n 100 y in wider 2 4 n _ (omega arith) (two n (n / 10) (n % 10) (omega arith) (omega arith) (omega arith))
    by false false true x y z = let lt = ltb-true n 1000 z in
        wider 3 4 n _ (omega arith) (three n (n / 100) (n / 10 % 10) (n % 10) (omega arith) (omega arith) (omega arith) (omega arith))
    by false false false x y z = four n (n / 1000) (n / 100 % 10) (n / 10 % 10) (n % 10) (omega arith) (omega arith) (omega arith) (omega arith) (omega arith)

-- digits are no newlines
pub digits-line : (ds : List ℕ) → list_all is_digit ds ≡ true → list_all (λ b. not (is_newline b)) ds ≡ true
digits-line [] all = refl
digits-line (d ∷ ds) all =
    let p = and_parts (is_digit d) (list_all is_digit ds) all in
    let low = leb-true 48 d (and_parts _ _ p.0).0 in
    and_from _ _ (by d low (is_newline d) refl) (digits-line ds p.1)
  where
    by : (n : ℕ) → 48 ≤ n → (c : Bool) → is_newline n ≡ c → not c ≡ true
    by n low true e = let ten = eqb-true n 10 e in absurd (omega arith)
    by n low false e = refl
