-- Elements of lists, and pairs of them.
use Rattle.std.proofs.Common.{◌≡◌, ◌⊎◌, inl, inr, ℕ, zero, suc, List, [], ◌∷◌, ◌++◌, map, Some, slice_get, refl, sym, ap, ◌∙◌, subst}
use Rattle.std.specs.List.{flat_map, AllByRecursion}
use Rattle.lr_host.specs.Lists.{IsIn}
use Rattle.lr_host.proofs.Lists.{of_flat}

-- ---- places

-- what stands at a place is in the list
pub in_list : {A : Type 0} (xs : List A) (k : ℕ) (x : A) → slice_get xs k ≡ Some x → IsIn x xs
in_list [] zero x h = absurd (cc)
in_list [] (suc k) x h = absurd (cc)
in_list (y ∷ ys) zero x h = inl (cc)
in_list (y ∷ ys) (suc k) x h = inr (in_list ys k x h)

pub map_at : {A B : Type 0} (f : A → B) (xs : List A) (k : ℕ) (x : A) → slice_get xs k ≡ Some x → slice_get (map f xs) k ≡ Some (f x)
map_at f [] zero x h = absurd (cc)
map_at f [] (suc k) x h = absurd (cc)
map_at f (y ∷ ys) zero x h = let e : y ≡ x = cc in ap (λ z. Some (f z)) e
map_at f (y ∷ ys) (suc k) x h = map_at f ys k x h

pub unmap_at : {A B : Type 0} (f : A → B) (xs : List A) (k : ℕ) (y : B) → slice_get (map f xs) k ≡ Some y → (x : A) × (slice_get xs k ≡ Some x) × (f x ≡ y)
unmap_at f [] zero y h = absurd (cc)
unmap_at f [] (suc k) y h = absurd (cc)
unmap_at f (x ∷ xs) zero y h = (x, refl, cc)
unmap_at f (x ∷ xs) (suc k) y h = unmap_at f xs k y h

-- ---- what holds of each

pub each_in : {A : Type 0} (P : A → Type 0) (xs : List A) → ((x : A) → IsIn x xs → P x) → AllByRecursion P xs
each_in P [] h = tt
each_in P (x ∷ xs) h = (h x (inl refl), each_in P xs (λ y i. h y (inr i)))

pub in_each : {A : Type 0} (P : A → Type 0) (xs : List A) (x : A) → AllByRecursion P xs → IsIn x xs → P x
in_each P [] x h i = absurd i
in_each P (y ∷ ys) x h (inl e) = subst P e h.0
in_each P (y ∷ ys) x h (inr i) = in_each P ys x h.1 i

each_both : {A : Type 0} (P : A → Type 0) (xs ys : List A) → AllByRecursion P xs → AllByRecursion P ys → AllByRecursion P (xs ++ ys)
each_both P [] ys a b = b
each_both P (x ∷ xs) ys a b = (a.0, each_both P xs ys a.1 b)

each_unmap : {A B : Type 0} (P : B → Type 0) (f : A → B) (xs : List A) → AllByRecursion P (map f xs) → AllByRecursion (λ x. P (f x)) xs
each_unmap P f [] h = tt
each_unmap P f (x ∷ xs) h = (h.0, each_unmap P f xs h.1)

-- ---- what holds of each and each later one

abbrev pub Pairs : {A : Type 0} → (A → A → Type 0) → List A → Type 0
Pairs R [] = Unit {0}
Pairs R (x ∷ xs) = AllByRecursion (R x) xs × Pairs R xs

pub pairs_both : {A : Type 0} (R : A → A → Type 0) (xs ys : List A) → Pairs R xs → Pairs R ys → ((x y : A) → IsIn x xs → IsIn y ys → R x y) → Pairs R (xs ++ ys)
pairs_both R [] ys p q h = q
pairs_both R (x ∷ xs) ys p q h = (each_both (R x) xs ys p.0 (each_in (R x) ys (λ y j. h x y (inl refl) j)), pairs_both R xs ys p.1 q (λ a b i j. h a b (inr i) j))

pub pairs_unmap : {A B : Type 0} (R : B → B → Type 0) (f : A → B) (xs : List A) → Pairs R (map f xs) → Pairs (λ x y. R (f x) (f y)) xs
pairs_unmap R f [] p = tt
pairs_unmap R f (x ∷ xs) p = (each_unmap (R (f x)) f xs p.0, pairs_unmap R f xs p.1)

pub pairs_flat : {A B : Type 0} (R : A → A → Type 0) (S : B → B → Type 0) (f : A → List B) (xs : List A) → ((x : A) → Pairs S (f x)) → ((x y : A) (a b : B) → R x y → IsIn a (f x) → IsIn b (f y) → S a b) → Pairs R xs → Pairs S (flat_map f xs)
pairs_flat R S f [] one two p = tt
pairs_flat R S f (x ∷ xs) one two p = pairs_both S (f x) (flat_map f xs) (one x) (pairs_flat R S f xs one two p.1) cross
  where
    cross : (a b : _) → IsIn a (f x) → IsIn b (flat_map f xs) → S a b
    cross a b i j = let r = of_flat f xs b j in two x r.0 a b (in_each (R x) xs r.0 p.0 r.1) i r.2

-- two elements are one, or the one is later than the other
pub pairs_two : {A : Type 0} (R : A → A → Type 0) (xs : List A) → Pairs R xs → (x y : A) → IsIn x xs → IsIn y xs → (x ≡ y) ⊎ (R x y ⊎ R y x)
pairs_two R [] p x y i j = absurd i
pairs_two R (z ∷ zs) p x y (inl e) (inl g) = inl (sym e ∙ g)
pairs_two R (z ∷ zs) p x y (inl e) (inr j) = inr (inl (subst (λ w. R w y) e (in_each (R z) zs y p.0 j)))
pairs_two R (z ∷ zs) p x y (inr i) (inl g) = inr (inr (subst (λ w. R w x) g (in_each (R z) zs x p.0 i)))
pairs_two R (z ∷ zs) p x y (inr i) (inr j) = pairs_two R zs p.1 x y i j
