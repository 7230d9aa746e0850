-- Facts of each number of a list, by recursion, and of lists that fall.
use Rattle.std.proofs.Common.{◌≡◌, ◌⊎◌, inl, inr, ℕ, zero, suc, ◌<◌, Bool, true, false, ◌==◌, ◌||◌, cond, List, [], ◌∷◌, ◌++◌, length, reverse, refl, sym, subst, arith, eqb-true, eq-eqb}
use Rattle.std.specs.Prelude.{filter, Contains, Any, All}
use Rattle.std.specs.List.{list_any, AllPairs}
use Rattle.std.proofs.lemmas.List.{reverse-append}
use Rattle.std.proofs.lemmas.List.Elements.{All-head, All-tail}
use Rattle.std.proofs.lemmas.List.Folds.{Any-from_list_any, list_any-from_Any}

abbrev pub Every : (ℕ → Type 0) → List ℕ → Type 0
Every P [] = Unit {0}
Every P (k ∷ ks) = P k × Every P ks

-- each is below all before it
abbrev pub Falls : List ℕ → Type 0
Falls [] = Unit {0}
Falls (k ∷ ks) = Every (λ j. j < k) ks × Falls ks

pub every_all : (P : ℕ → Type 0) (ks : List ℕ) → All P ks → Every P ks
every_all P [] h = tt
every_all P (k ∷ ks) h = (All-head P k ks h, every_all P ks (All-tail P k ks h))

pub every_as : (P Q : ℕ → Type 0) (ks : List ℕ) → ((k : ℕ) → P k → Q k) → Every P ks → Every Q ks
every_as P Q [] f a = tt
every_as P Q (k ∷ ks) f a = (f k a.0, every_as P Q ks f a.1)

pub every_both : (P Q R : ℕ → Type 0) (ks : List ℕ) → ((k : ℕ) → P k → Q k → R k) → Every P ks → Every Q ks → Every R ks
every_both P Q R [] f a b = tt
every_both P Q R (k ∷ ks) f a b = (f k a.0 b.0, every_both P Q R ks f a.1 b.1)

pub every_filter : (P : ℕ → Type 0) (p : ℕ → Bool) (ks : List ℕ) → Every P ks → Every P (filter p ks)
every_filter P p [] a = tt
every_filter P p (k ∷ ks) a = go (p k) (every_filter P p ks a.1)
  where
    go : (b : Bool) → Every P (filter p ks) → Every P (cond b (k ∷ filter p ks) (filter p ks))
    go true r = (a.0, r)
    go false r = r

pub every_passes : (p : ℕ → Bool) (ks : List ℕ) → Every (λ k. p k ≡ true) (filter p ks)
every_passes p [] = tt
every_passes p (k ∷ ks) = go (p k) refl (every_passes p ks)
  where
    go : (b : Bool) → p k ≡ b → Every (λ j. p j ≡ true) (filter p ks) → Every (λ j. p j ≡ true) (cond b (k ∷ filter p ks) (filter p ks))
    go true e r = (e, r)
    go false e r = r

pub falls_filter : (p : ℕ → Bool) (ks : List ℕ) → Falls ks → Falls (filter p ks)
falls_filter p [] f = tt
falls_filter p (k ∷ ks) f = go (p k) (falls_filter p ks f.1)
  where
    go : (b : Bool) → Falls (filter p ks) → Falls (cond b (k ∷ filter p ks) (filter p ks))
    go true r = (every_filter (λ j. j < k) p ks f.0, r)
    go false r = r

pub every_from : (P : ℕ → Type 0) (ks : List ℕ) → ((k : ℕ) → Contains ks k → P k) → Every P ks
every_from P [] f = tt
every_from P (k ∷ ks) f = (f k (0, omega arith, refl), every_from P ks (λ j c. f j (suc c.0, more (c.1), c.2)))
  where
    more : {i : ℕ} → i < length ks → suc i < length (k ∷ ks)
    more lt = omega arith

-- rising numbers, turned round
every_push : (P : ℕ → Type 0) (ks : List ℕ) (x : ℕ) → Every P ks → P x → Every P (ks ++ x ∷ [])
every_push P [] x a h = (h, tt)
every_push P (k ∷ ks) x a h = (a.0, every_push P ks x a.1 h)

every_reverse : (P : ℕ → Type 0) (ks : List ℕ) → Every P ks → Every P (reverse ks)
every_reverse P [] a = tt
every_reverse P (k ∷ ks) a = subst (Every P) (sym (reverse-append (k ∷ []) ks)) (every_push P (reverse ks) k (every_reverse P ks a.1) a.0)

falls_push : (ks : List ℕ) (x : ℕ) → Falls ks → Every (λ j. x < j) ks → Falls (ks ++ x ∷ [])
falls_push [] x f a = (tt, tt)
falls_push (k ∷ ks) x f a = (every_push (λ j. j < k) ks x f.0 a.0, falls_push ks x f.1 a.1)

later : (x : ℕ) (ks : List ℕ) → AllPairs (λ a b. a < b) (x ∷ ks) → Every (λ j. x < j) ks
later x ks h = every_all (λ j. x < j) ks (λ k d lt. h zero (suc k) d (omega arith) (omega arith))

rest_rises : (x : ℕ) (ks : List ℕ) → AllPairs (λ a b. a < b) (x ∷ ks) → AllPairs (λ a b. a < b) ks
rest_rises x ks h = λ i j d lt within. h (suc i) (suc j) d (omega arith) (omega arith)

-- numbers that rise fall where they are turned round
pub falls_reverse : (ks : List ℕ) → AllPairs (λ a b. a < b) ks → Falls (reverse ks)
falls_reverse [] h = tt
falls_reverse (k ∷ ks) h = subst Falls (sym (reverse-append (k ∷ []) ks)) (falls_push (reverse ks) k (falls_reverse ks (rest_rises k ks h)) (every_reverse (λ j. k < j) ks (later k ks h)))

pub among : (top : ℕ) (ks : List ℕ) (P : ℕ → Type 0) → list_any (λ k. k == top) ks ≡ true → Every P ks → P top
among top [] P h a = absurd (cc)
among top (k ∷ ks) P h a = go (k == top) refl (λ r. among top ks P r a.1) h
  where
    go : (b : Bool) → (k == top) ≡ b → (list_any (λ j. j == top) ks ≡ true → P top) → (b || list_any (λ j. j == top) ks) ≡ true → P top
    go true e further h = subst P (eqb-true k top e) a.0
    go false e further h = further h

pub in_or_not : (ks : List ℕ) (k : ℕ) → Contains ks k ⊎ (Contains ks k → ⊥)
in_or_not ks k = go (list_any (λ j. j == k) ks) refl
  where
    there : Any (λ j. (j == k) ≡ true) ks → Contains ks k
    there a = subst (λ (j : ℕ). Contains ks j) (eqb-true a.1 k a.4) (a.0, a.2, a.3)

    go : (b : Bool) → list_any (λ j. j == k) ks ≡ b → Contains ks k ⊎ (Contains ks k → ⊥)
    go true e = inl (there (Any-from_list_any (λ j. j == k) ks e))
    go false e = inr (λ c. let t : list_any (λ j. j == k) ks ≡ true = list_any-from_Any (λ j. j == k) ks (c.0, k, c.1, c.2, eq-eqb k k refl) in cc)
