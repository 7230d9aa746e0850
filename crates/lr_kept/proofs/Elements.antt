-- An element of a list by its place.
use Rattle.std.proofs.Common.{◌≡◌, ◌≢◌, ◌∙◌, sym, ap, refl, ℕ, zero, suc, ◌<◌, List, [], ◌∷◌, ◌++◌, length, set, get_or, Some, slice_get, inl, inr, ◌⊎◌, ⊎_elim, arith}
use Rattle.std.specs.Prelude.{Contains}
use Rattle.std.proofs.lemmas.Option.{slice_get-get_or, slice_get_within, get_or_from_slice_get, same_Some}

module _ {A : Type 0} where
  pub same_read : (xs : List A) (k : ℕ) (x y : A) → slice_get xs k ≡ Some x → slice_get xs k ≡ Some y → x ≡ y
  same_read xs k x y h g = same_Some x y (sym h ∙ g)

  pub read_from : (xs : List A) (k : ℕ) (x : A) → k < length xs → x ≡ get_or xs k x → slice_get xs k ≡ Some x
  read_from xs k x lt is = slice_get-get_or xs k x lt ∙ ap (λ (y : A). Some y) (sym is)

  pub read_set_same : (xs : List A) (k : ℕ) (v : A) → k < length xs → slice_get (set xs k v) k ≡ Some v
  read_set_same [] k v lt = absurd (let l : k < 0 = lt in omega arith)
  read_set_same (x ∷ xs) zero v lt = refl
  read_set_same (x ∷ xs) (suc k) v lt = read_set_same xs k v (omega arith)

  pub read_set_other : (xs : List A) (k j : ℕ) (v : A) → j ≢ k → slice_get (set xs k v) j ≡ slice_get xs j
  read_set_other [] k j v ne = refl
  read_set_other (x ∷ xs) zero zero v ne = absurd (ne refl)
  read_set_other (x ∷ xs) zero (suc j) v ne = refl
  read_set_other (x ∷ xs) (suc k) zero v ne = refl
  read_set_other (x ∷ xs) (suc k) (suc j) v ne = read_set_other xs k j v (λ e. ne (ap suc e))

  pub read_push_cases : (xs : List A) (y x : A) (k : ℕ) → slice_get (xs ++ y ∷ []) k ≡ Some x → (slice_get xs k ≡ Some x) ⊎ ((k ≡ length xs) × (x ≡ y))
  read_push_cases [] y x zero h = inr (refl, sym (same_Some y x h))
  read_push_cases [] y x (suc k) h = absurd (cc h)
  read_push_cases (z ∷ xs) y x zero h = inl h
  read_push_cases (z ∷ xs) y x (suc k) h = ⊎_elim (λ l. inl l) (λ r. inr (ap suc r.0, r.1)) (read_push_cases xs y x k h)

  pub contains_read : (xs : List A) (x : A) → Contains xs x → (k : ℕ) × (k < length xs) × (slice_get xs k ≡ Some x)
  contains_read xs x c = (c.0, c.1, read_from xs c.0 x c.1 (sym c.2))

  pub contains_from : (xs : List A) (k : ℕ) (x : A) → slice_get xs k ≡ Some x → Contains xs x
  contains_from xs k x h = (k, slice_get_within xs k x h, get_or_from_slice_get xs k x x h)
