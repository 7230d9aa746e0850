-- What a list has.
use Rattle.std.proofs.Common.{◌≡◌, ◌⊎◌, inl, inr, ⊎_elim, ℕ, zero, suc, ◌<◌, List, [], ◌∷◌, ◌++◌, length, get_or, map, reverse, refl, sym, ap, subst, arith, Contains, ◌∙◌, append_assoc, Bool, true, false, cond, filter}
use Rattle.std.proofs.lemmas.List.{reverse-append, reverse-reverse}
use Rattle.std.specs.List.{flat_map}
use Rattle.lr_host.specs.Lists.{IsIn}

in_at : {X : Type 0} (x : X) (xs : List X) (i : ℕ) → i < length xs → get_or xs i x ≡ x → IsIn x xs
in_at x [] i lt e = absurd (omega arith)
in_at x (y ∷ ys) zero lt e = inl e
in_at x (y ∷ ys) (suc i) lt e = inr (in_at x ys i (omega arith) e)

pub in_from : {X : Type 0} (x : X) (xs : List X) → Contains xs x → IsIn x xs
in_from x xs c = in_at x xs c.0 c.1 c.2

pub in_to : {X : Type 0} (x : X) (xs : List X) → IsIn x xs → Contains xs x
in_to x [] h = absurd h
in_to x (y ∷ ys) (inl e) = (0, omega arith, e)
in_to x (y ∷ ys) (inr h) = let c = in_to x ys h in (suc c.0, more c.1, c.2)
  where
    more : {i : ℕ} → i < length ys → suc i < length (y ∷ ys)
    more lt = omega arith

pub in_map : {X Y : Type 0} (f : X → Y) (x : X) (xs : List X) → IsIn x xs → IsIn (f x) (map f xs)
in_map f x [] h = absurd h
in_map f x (y ∷ ys) (inl e) = inl (ap f e)
in_map f x (y ∷ ys) (inr h) = inr (in_map f x ys h)

pub in_unmap : {X Y : Type 0} (f : X → Y) (y : Y) (xs : List X) → IsIn y (map f xs) → (x : X) × IsIn x xs × (f x ≡ y)
in_unmap f y [] h = absurd h
in_unmap f y (x ∷ xs) (inl e) = (x, inl refl, e)
in_unmap f y (x ∷ xs) (inr h) = let r = in_unmap f y xs h in (r.0, inr r.1, r.2)

pub in_front : {X : Type 0} (x : X) (xs ys : List X) → IsIn x xs → IsIn x (xs ++ ys)
in_front x [] ys h = absurd h
in_front x (y ∷ xs) ys (inl e) = inl e
in_front x (y ∷ xs) ys (inr h) = inr (in_front x xs ys h)

pub in_back : {X : Type 0} (x : X) (xs ys : List X) → IsIn x ys → IsIn x (xs ++ ys)
in_back x [] ys h = h
in_back x (y ∷ xs) ys h = inr (in_back x xs ys h)

pub in_append : {X : Type 0} (x : X) (xs ys : List X) → IsIn x (xs ++ ys) → IsIn x xs ⊎ IsIn x ys
in_append x [] ys h = inr h
in_append x (y ∷ xs) ys (inl e) = inl (inl e)
in_append x (y ∷ xs) ys (inr h) = ⊎_elim (λ a. inl (inr a)) (λ b. inr b) (in_append x xs ys h)

pub in_reverse : {X : Type 0} (x : X) (xs : List X) → IsIn x xs → IsIn x (reverse xs)
in_reverse x [] h = h
in_reverse x (y ∷ ys) h = subst (IsIn x) (sym (reverse-append (y ∷ []) ys)) (go (in_reverse x ys) h)
  where
    go : (IsIn x ys → IsIn x (reverse ys)) → (y ≡ x) ⊎ IsIn x ys → IsIn x (reverse ys ++ y ∷ [])
    go further (inl e) = in_back x (reverse ys) (y ∷ []) (inl e)
    go further (inr h) = in_front x (reverse ys) (y ∷ []) (further h)

pub from_reverse : {X : Type 0} (x : X) (xs : List X) → IsIn x (reverse xs) → IsIn x xs
from_reverse x xs h = subst (IsIn x) (reverse-reverse xs) (in_reverse x (reverse xs) h)

pub to_flat : {A B : Type 0} (f : A → List B) (xs : List A) (x : A) (y : B) → IsIn x xs → IsIn y (f x) → IsIn y (flat_map f xs)
to_flat f [] x y i j = absurd i
to_flat f (z ∷ zs) x y (inl e) j = in_front y (f z) (flat_map f zs) (subst (λ w. IsIn y (f w)) (sym e) j)
to_flat f (z ∷ zs) x y (inr i) j = in_back y (f z) (flat_map f zs) (to_flat f zs x y i j)

pub of_flat : {A B : Type 0} (f : A → List B) (xs : List A) (y : B) → IsIn y (flat_map f xs) → (x : A) × IsIn x xs × IsIn y (f x)
of_flat f [] y h = absurd h
of_flat f (x ∷ xs) y h = ⊎_elim (λ a. (x, inl refl, a)) (λ b. let r = of_flat f xs y b in (r.0, inr r.1, r.2)) (in_append y (f x) (flat_map f xs) h)

pub grown : {A : Type 0} (a b c x y z : List A) → b ≡ a ++ x → c ≡ b ++ y → z ≡ x ++ y → c ≡ a ++ z
grown a b c x y z e f g = f ∙ (ap (λ l. l ++ y) e ∙ (append_assoc a x y ∙ ap (λ l. a ++ l) (sym g)))

pub from_filter : {X : Type 0} (test : X → Bool) (x : X) (xs : List X) → IsIn x (filter test xs) → IsIn x xs × (test x ≡ true)
from_filter test x [] h = absurd h
from_filter {X = X} test x (y ∷ ys) h = by (test y) refl (from_filter test x ys) h
  where
    more : IsIn x ys × (test x ≡ true) → IsIn x (y ∷ ys) × (test x ≡ true)
    more h = (inr h.0, h.1)

    by : (b : Bool) → test y ≡ b → (IsIn x (filter test ys) → IsIn x ys × (test x ≡ true)) → IsIn x (cond b (y ∷ filter test ys) (filter test ys)) → IsIn x (y ∷ ys) × (test x ≡ true)
    by true passes rest (inl same) = (inl same, sym (ap test same) ∙ passes)
    by true passes rest (inr i) = more (rest i)
    by false passes rest i = more (rest i)
