-- Loops that leave one entry a turn, for the members of a list.
use Rattle.std.proofs.Common.{◌≡◌, ℕ, ◌<◌, ◌+◌, sym, ◌∙◌, ap, subst, Option, List, [], ◌∷◌, ◌++◌, length, take, drop, get_or, map}
use Rattle.std.proofs.lemmas.List.{map_more, drop_more, take-append-drop, map-append}
use Rattle.lr_host.specs.declared.entry.Entry.{Entry}
use Rattle.lr_host.specs.declared.journal.Journal.{Journal}
use Rattle.lr_host.specs.Told.{Left, Are, Can}
use Rattle.lr_host.specs.Steps.{CanAll, is_change}
use Rattle.std.specs.Prelude.{filter}
use Rattle.lr_host.proofs.Left.{left_then, can_rest, can_first}

split_at : {X : Type 0} (f : X → Entry) (xs : List X) (i : ℕ) (x : X) → x ≡ get_or xs i x → i < length xs → map f xs ≡ map f (take i xs) ++ f x ∷ map f (drop (i + 1) xs)
split_at f xs i x is lt =
    ap (map f) (sym (take-append-drop i xs)) ∙ (map-append f (take i xs) (drop i xs)
    ∙ ap (λ ys. map f (take i xs) ++ map f ys) (drop_more xs i x lt ∙ ap (λ y. y ∷ drop (i + 1) xs) (sym is)))

-- what this turn calls fits
pub next_can : {X : Type 0} (f : X → Entry) (xs : List X) (i : ℕ) (x : X) {o m : Option Journal}
    → x ≡ get_or xs i x → i < length xs → CanAll o (map f xs) → Left (Are (map f (take i xs))) o m → Can m (f x)
next_can f xs i x {o} {m} is lt can so_far =
    can_first (f x) (map f (drop (i + 1) xs))
    (can_rest (map f (take i xs)) (f x ∷ map f (drop (i + 1) xs)) (subst (λ es. CanAll o es) (split_at f xs i x is lt) can) so_far (λ ts t. ap (filter is_change) t))

-- one turn more
pub next_left : {X : Type 0} (f : X → Entry) (xs : List X) (i : ℕ) (x : X) {o m n : Option Journal}
    → x ≡ get_or xs i x → i < length xs → Left (Are (map f (take i xs))) o m → Left (Are (f x ∷ [])) m n → Left (Are (map f (take (i + 1) xs))) o n
next_left f xs i x is lt so_far now = left_then so_far now (λ ys zs p q. both ys zs p q)
  where
    both : (ys zs : List Entry) → ys ≡ map f (take i xs) → zs ≡ f x ∷ [] → ys ++ zs ≡ map f (take (i + 1) xs)
    both ys zs p q = ap (λ y. y ++ zs) p ∙ (ap (λ z. map f (take i xs) ++ z) q ∙ (ap (λ y. map f (take i xs) ++ f y ∷ []) is ∙ sym (map_more f xs i x lt)))
