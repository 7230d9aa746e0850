-- Lists of keys and values, of which the first pair with a key counts.
use Rattle.std.proofs.Common.{◌≡◌, ◌≢◌, ◌⊎◌, inl, inr, ℕ, zero, suc, ◌<◌, Bool, true, false, cond, ◌||◌, List, [], ◌∷◌, ◌++◌, length, get_or, take, refl, ◌∙◌, ap, subst, arith, nat_eq, bytes_eq}
use Rattle.std.specs.Prelude.{slice_set}
use Rattle.std.proofs.lemmas.Bool.Decides.{Decides-eqb}
use Rattle.std.proofs.lemmas.Slice.Eq.{bytes_eq-Decides}
use Rattle.std.proofs.lemmas.Bool.{or_parts}
use Rattle.lr_host.specs.Lists.{AreDistinct, IsNotIn}
use Rattle.lr_disk.specs.Pairs.{pair_value, keys, has, with_value}

-- the test tells whether two keys are the same
abbrev pub Tells : {K : Type 0} → (K → K → Bool) → Type 0
Tells eq = (x y : _) → (eq x y ≡ true → x ≡ y) × (x ≡ y → eq x y ≡ true)

pub bytes_tell : Tells bytes_eq
bytes_tell x y = ((bytes_eq-Decides x y).0, (bytes_eq-Decides x y).1)

pub numbers_tell : Tells nat_eq
numbers_tell x y = ((Decides-eqb x y).0, (Decides-eqb x y).1)

twice : {V : Type 0} (t : Bool) (v a b : V) → cond t v b ≡ cond t v (cond t a b)
twice true v a b = refl
twice false v a b = refl

swapped : {V : Type 0} (s t : Bool) (v a b : V) → (s ≡ true → t ≡ false) → cond t a (cond s v b) ≡ cond s v (cond t a b)
swapped true true v a b h = absurd (let e : true ≡ false = h refl in cc)
swapped true false v a b h = refl
swapped false t v a b h = refl

-- the first pair with the key changed
pub set_is : {K V : Type 0} (eq : K → K → Bool) → Tells eq → (none : V) (ps : List (K × V)) (i : ℕ) (d : K × V) (x : K) (v : V) (y : K) → i < length ps
    → has eq (take i ps) x ≡ false → eq (get_or ps i d).0 x ≡ true
    → pair_value eq none (slice_set ps i ((get_or ps i d).0, v)) y ≡ with_value eq (pair_value eq none ps) x v y
set_is eq tells none [] i d x v y lt new hit = absurd (omega arith)
set_is eq tells none (p ∷ ps) zero d x v y lt new hit =
    subst (λ z. cond (eq p.0 y) v (pair_value eq none ps y) ≡ cond (eq z y) v (cond (eq p.0 y) p.1 (pair_value eq none ps y)))
    ((tells p.0 x).0 hit) (twice (eq p.0 y) v p.1 (pair_value eq none ps y))
set_is eq tells none (p ∷ ps) (suc i) d x v y lt new hit =
    let o = or_parts (eq p.0 x) (has eq (take i ps) x) new in
    let later : pair_value eq none (slice_set ps i ((get_or ps i d).0, v)) y ≡ cond (eq x y) v (pair_value eq none ps y) =
    set_is eq tells none ps i d x v y (omega arith) o.1 hit in
    ap (λ r. cond (eq p.0 y) p.1 r) later
    ∙ swapped (eq x y) (eq p.0 y) v p.1 (pair_value eq none ps y)
    (λ s. subst (λ z. eq p.0 z ≡ false) ((tells x y).0 s) o.0)

pub keys_set : {K V : Type 0} (ps : List (K × V)) (i : ℕ) (d : K × V) (v : V) → i < length ps → keys (slice_set ps i ((get_or ps i d).0, v)) ≡ keys ps
keys_set [] i d v lt = absurd (omega arith)
keys_set (p ∷ ps) zero d v lt = refl
keys_set (p ∷ ps) (suc i) d v lt = ap (λ ks. p.0 ∷ ks) (keys_set ps i d v (omega arith))

either : {V : Type 0} (b : Bool) (v : V) → cond b v v ≡ v
either true v = refl
either false v = refl

-- a pair without a value, behind all others
pub value_of_last : {K V : Type 0} (eq : K → K → Bool) (none : V) (ps : List (K × V)) (x y : K) → pair_value eq none (ps ++ (x, none) ∷ []) y ≡ pair_value eq none ps y
value_of_last eq none [] x y = either (eq x y) none
value_of_last eq none (p ∷ ps) x y = ap (λ v. cond (eq p.0 y) p.1 v) (value_of_last eq none ps x y)

pub or_true : (b : Bool) → (b || true) ≡ true
or_true true = refl
or_true false = refl

pub has_last : {K V : Type 0} (eq : K → K → Bool) → Tells eq → (ps : List (K × V)) (x : K) (v : V) → has eq (ps ++ (x, v) ∷ []) x ≡ true
has_last eq tells [] x v = ap (λ b. b || false) ((tells x x).1 refl)
has_last eq tells (p ∷ ps) x v = ap (λ b. eq p.0 x || b) (has_last eq tells ps x v) ∙ or_true (eq p.0 x)

pub has_kept : {K V : Type 0} (eq : K → K → Bool) (ps : List (K × V)) (q : K × V) (x : K) → has eq ps x ≡ true → has eq (ps ++ q ∷ []) x ≡ true
has_kept eq [] q x h = absurd (cc)
has_kept eq (p ∷ ps) q x h = by_cases (eq p.0 x) (has eq ps x) (has eq (ps ++ q ∷ []) x) h (has_kept eq ps q x)
  where
    by_cases : (a b c : Bool) → (a || b) ≡ true → (b ≡ true → c ≡ true) → (a || c) ≡ true
    by_cases true b c h f = refl
    by_cases false b c h f = f h

pub has_only : {K V : Type 0} (eq : K → K → Bool) → Tells eq → (ps : List (K × V)) (q : K × V) (x : K) → has eq (ps ++ q ∷ []) x ≡ true → (has eq ps x ≡ true) ⊎ (q.0 ≡ x)
has_only eq tells [] q x h = inr ((tells q.0 x).0 (go (eq q.0 x) h))
  where
    go : (b : Bool) → (b || false) ≡ true → b ≡ true
    go true h = refl
    go false h = h
has_only eq tells (p ∷ ps) q x h = go (eq p.0 x) h (has_only eq tells ps q x)
  where
    go : (b : Bool) → (b || has eq (ps ++ q ∷ []) x) ≡ true → (has eq (ps ++ q ∷ []) x ≡ true → (has eq ps x ≡ true) ⊎ (q.0 ≡ x)) → ((b || has eq ps x) ≡ true) ⊎ (q.0 ≡ x)
    go true h f = inl refl
    go false h f = f h

-- a key that no pair has has no value
pub value_lacks : {K V : Type 0} (eq : K → K → Bool) (none : V) (ps : List (K × V)) (x : K) → has eq ps x ≡ false → pair_value eq none ps x ≡ none
value_lacks eq none [] x h = refl
value_lacks eq none (p ∷ ps) x h = go (eq p.0 x) h (value_lacks eq none ps x)
  where
    go : (b : Bool) → (b || has eq ps x) ≡ false → (has eq ps x ≡ false → pair_value eq none ps x ≡ none) → cond b p.1 (pair_value eq none ps x) ≡ none
    go true h f = absurd (cc)
    go false h f = f h

-- a key that no pair has, behind all others
pub not_in_last : {K V : Type 0} (ps : List (K × V)) (q : K × V) (x : K) → IsNotIn x (keys ps) → x ≢ q.0 → IsNotIn x (keys (ps ++ q ∷ []))
not_in_last [] q x h ne = (ne, tt)
not_in_last (p ∷ ps) q x h ne = (h.0, not_in_last ps q x h.1 ne)

pub once_last : {K V : Type 0} (eq : K → K → Bool) → Tells eq → (ps : List (K × V)) (q : K × V) → has eq ps q.0 ≡ false → AreDistinct (keys ps) → AreDistinct (keys (ps ++ q ∷ []))
once_last eq tells [] q new once = (tt, tt)
once_last eq tells (p ∷ ps) q new once =
    let o = or_parts (eq p.0 q.0) (has eq ps q.0) new in
    (not_in_last ps q p.0 once.0 (λ same. let t : eq p.0 q.0 ≡ true = (tells p.0 q.0).1 same in let f = o.0 in cc), once_last eq tells ps q o.1 once.1)

-- a key that some pair has
pub valued_has : {K V : Type 0} (eq : K → K → Bool) (none : V) (ps : List (K × V)) (x : K) → pair_value eq none ps x ≢ none → has eq ps x ≡ true
valued_has eq none [] x ne = absurd (ne refl)
valued_has eq none (p ∷ ps) x ne = go (eq p.0 x) ne (valued_has eq none ps x)
  where
    go : (b : Bool) → cond b p.1 (pair_value eq none ps x) ≢ none → (pair_value eq none ps x ≢ none → has eq ps x ≡ true) → (b || has eq ps x) ≡ true
    go true ne f = refl
    go false ne f = f ne

-- the key of the pair at a place
pub has_at : {K V : Type 0} (eq : K → K → Bool) (ps : List (K × V)) (i : ℕ) (d : K × V) (x : K) → i < length ps → eq (get_or ps i d).0 x ≡ true → has eq ps x ≡ true
has_at eq [] i d x lt h = absurd (omega arith)
has_at eq (p ∷ ps) zero d x lt h = ap (λ b. b || has eq ps x) h
has_at eq (p ∷ ps) (suc i) d x lt h = ap (λ b. eq p.0 x || b) (has_at eq ps i d x (omega arith) h) ∙ or_true (eq p.0 x)
