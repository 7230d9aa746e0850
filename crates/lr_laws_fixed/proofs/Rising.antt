-- Lists that rise strictly are fixed by what they have, whatever ties in their order.
use Rattle.std.proofs.Common.{◌≡◌, ⊎_elim, inl, inr, List, [], ◌∷◌, Ordering, Less, Equal, Greater, refl, sym, ap, ◌∙◌, subst}
use Rattle.std.specs.Cmp.{IsTotalOrder}
use Rattle.std.specs.List.{AllByRecursion}
use Rattle.std.specs.List.Sorted.{IsStrictlySortedBy}
use Rattle.std.specs.Ordering.{ordering_reverse}
use Rattle.std.proofs.lemmas.Map.Keys.{sorted_head, sorted_tail}
use Rattle.lr_host.specs.Lists.{IsIn}

module _ {K : Type 0} {R : K → K → Ordering} (o : IsTotalOrder R) where
  below : (x y : K) (ys : List K) → AllByRecursion (λ z. R x z ≡ Less) ys → IsIn y ys → R x y ≡ Less
  below x y [] h i = absurd i
  below x y (z ∷ zs) h (inl e) = subst (λ (w : K). R x w ≡ Less) e h.0
  below x y (z ∷ zs) h (inr i) = below x y zs h.1 i

  -- none is below itself
  not_itself : (x : K) → R x x ≡ Less → ⊥
  not_itself x e = go (R x x) e (o.antisymm x x)
    where
      go : (r : Ordering) → r ≡ Less → r ≡ ordering_reverse r → ⊥
      go Less e a = cc
      go Equal e a = cc
      go Greater e a = cc

  not_both : (x y : K) → R x y ≡ Less → R y x ≡ Less → ⊥
  not_both x y e f = not_itself x (o.trans x y x e f)

  -- what both have behind their first is the same
  behind : (x : K) (xs ys : List K) → AllByRecursion (λ z. R x z ≡ Less) xs → ((z : K) → IsIn z (x ∷ xs) → IsIn z (x ∷ ys)) → (z : K) → IsIn z xs → IsIn z ys
  behind x xs ys low f z i = ⊎_elim (λ (e : x ≡ z). absurd (not_itself x (subst (λ (w : K). R x w ≡ Less) (sym e) (below x z xs low i)))) (λ j. j) (f z (inr i))

  pub same_strict : (xs ys : List K) → IsStrictlySortedBy R xs → IsStrictlySortedBy R ys → ((z : K) → IsIn z xs → IsIn z ys) → ((z : K) → IsIn z ys → IsIn z xs) → xs ≡ ys
  same_strict [] [] up vp f g = refl
  same_strict [] (y ∷ ys) up vp f g = absurd (g y (inl refl))
  same_strict (x ∷ xs) [] up vp f g = absurd (f x (inl refl))
  same_strict (x ∷ xs) (y ∷ ys) up vp f g = ap (λ z. z ∷ xs) e ∙ ap (λ zs. y ∷ zs) (same_strict xs ys (sorted_tail R x xs up) (sorted_tail R y ys vp) (behind y xs ys (subst (λ (w : K). AllByRecursion (λ z. R w z ≡ Less) xs) e (sorted_head R x xs up)) (λ z i. f z (subst (λ (w : K). IsIn z (w ∷ xs)) (sym e) i)))
      (behind y ys xs (sorted_head R y ys vp) (λ z i. subst (λ (w : K). IsIn z (w ∷ xs)) e (g z i))))
    where
      e : x ≡ y
      e = ⊎_elim (λ (s : y ≡ x). sym s) (λ i. ⊎_elim (λ (s : x ≡ y). s) (λ j. absurd (not_both x y (below x y xs (sorted_head R x xs up) j) (below y x ys (sorted_head R y ys vp) i))) (g y (inl refl))) (f x (inl refl))
