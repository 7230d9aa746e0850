-- Whether a list has a number.
use Rattle.std.proofs.Common.{◌≡◌, ◌⊎◌, inl, inr, ℕ, ◌<◌, Bool, true, false, ◌&&◌, ◌||◌, ◌==◌, cond, List, [], ◌∷◌, reverse, refl, sym, ap, ◌∙◌, subst, arith, eqb-true, eq-eqb}
use Rattle.std.specs.Prelude.{filter, Contains, nat_lt}
use Rattle.std.specs.List.{list_any}
use Rattle.std.proofs.lemmas.List.{reverse-append}
use Rattle.std.proofs.lemmas.List.Folds.{Any-from_list_any, list_any-from_Any, list_any-append}
use Rattle.std.proofs.lemmas.Bool.Decides.{nat_tests}
use Rattle.std.proofs.lemmas.Bool.{or_from}
use Rattle.lr_family.proofs.Numbers.{Every}

abbrev pub has : ℕ → List ℕ → Bool
has k ks = list_any (λ j. j == k) ks

pub not_same : (j k : ℕ) → (j ≡ k → ⊥) → (j == k) ≡ false
not_same j k ne = go (j == k) refl
  where
    go : (b : Bool) → (j == k) ≡ b → (j == k) ≡ false
    go true e = absurd (ne (eqb-true j k e))
    go false e = e

pub has_below : (k : ℕ) (ks : List ℕ) → Every (λ j. j < k) ks → has k ks ≡ false
has_below k [] a = refl
has_below k (j ∷ ks) a = or_from (j == k) (has k ks) (not_same j k (λ e. omega (arith, e, a.0))) (has_below k ks a.1)

pub has_next : (j k : ℕ) (ks : List ℕ) → (j ≡ k → ⊥) → has k ks ≡ false → has k (j ∷ ks) ≡ false
has_next j k ks ne e = or_from (j == k) (has k ks) (not_same j k ne) e

pub has_filter : (f : ℕ → Bool) (k : ℕ) (ks : List ℕ) → has k (filter f ks) ≡ (f k && has k ks)
has_filter f k [] = ends (f k)
  where
    ends : (b : Bool) → false ≡ (b && false)
    ends true = refl
    ends false = refl
has_filter f k (j ∷ ks) = by_passed (f j) refl (has_filter f k ks)
  where
    -- here it is
    here : (b t : Bool) → b ≡ true → true ≡ (b && (true || t))
    here true t e = refl
    here false t e = absurd (cc)

    passed : (b : Bool) → f j ≡ true → (j == k) ≡ b → has k (filter f ks) ≡ (f k && has k ks) → (b || has k (filter f ks)) ≡ (f k && (b || has k ks))
    passed true fj e r = here (f k) (has k ks) (ap f (sym (eqb-true j k e)) ∙ fj)
    passed false fj e r = r

    out : (a t : Bool) → a ≡ false → (a && t) ≡ false
    out true t e = absurd (cc)
    out false t e = refl

    left_out : (b : Bool) → f j ≡ false → (j == k) ≡ b → has k (filter f ks) ≡ (f k && has k ks) → has k (filter f ks) ≡ (f k && (b || has k ks))
    left_out true fj e r = let no_k : f k ≡ false = ap f (sym (eqb-true j k e)) ∙ fj in r ∙ (out (f k) (has k ks) no_k ∙ sym (out (f k) (true || has k ks) no_k))
    left_out false fj e r = r

    by_passed : (b : Bool) → f j ≡ b → has k (filter f ks) ≡ (f k && has k ks) → has k (cond b (j ∷ filter f ks) (filter f ks)) ≡ (f k && has k (j ∷ ks))
    by_passed true fj r = passed (j == k) fj refl r
    by_passed false fj r = left_out (j == k) fj refl r

pub has_it : (k : ℕ) (ks : List ℕ) → Contains ks k → has k ks ≡ true
has_it k ks c = list_any-from_Any (λ j. j == k) ks (c.0, k, c.1, c.2, eq-eqb k k refl)

pub has_none : (k : ℕ) (ks : List ℕ) → has k ks ≡ false → Contains ks k → ⊥
has_none k ks e c = let t : has k ks ≡ true = has_it k ks c in cc

pub it_has : (k : ℕ) (ks : List ℕ) → has k ks ≡ true → Contains ks k
it_has k ks e = let a = Any-from_list_any (λ j. j == k) ks e in subst (λ (j : ℕ). Contains ks j) (eqb-true a.1 k a.4) (a.0, a.2, a.3)

pub has_reverse : (k : ℕ) (ks : List ℕ) → has k (reverse ks) ≡ has k ks
has_reverse k [] = refl
has_reverse k (j ∷ ks) = ap (has k) (reverse-append (j ∷ []) ks) ∙ (list_any-append (λ i. i == k) (reverse ks) (j ∷ []) ∙ (ap (λ b. b || ((j == k) || false)) (has_reverse k ks) ∙ turned (has k ks) (j == k)))
  where
    turned : (a b : Bool) → (a || (b || false)) ≡ (b || a)
    turned true true = refl
    turned true false = refl
    turned false true = refl
    turned false false = refl

pub order : (a b : ℕ) → (a < b) ⊎ ((a ≡ b) ⊎ (b < a))
order a b = go (nat_lt a b) refl (a == b) refl
  where
    go : (t : Bool) → nat_lt a b ≡ t → (s : Bool) → (a == b) ≡ s → (a < b) ⊎ ((a ≡ b) ⊎ (b < a))
    go true e s d = inl (grind (arith, nat_tests))
    go false e true d = inr (inl (eqb-true a b d))
    go false e false d = inr (inr (grind (arith, nat_tests)))
