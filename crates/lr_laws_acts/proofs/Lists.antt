-- A value in a list that is two joined.
use Rattle.std.proofs.Common.{◌≡◌, refl, sym, ◌∙◌, ap, List, [], ◌∷◌, ◌++◌}
use Rattle.lr_rules.proofs.Heads.{heads, tails}

-- it stands in the first of them, or in the second
pub data Stands {A : Type 0} (x : A) (xs ys before after : List A) : Type 0 where
  in_first : (rest : List A) → xs ≡ before ++ (x ∷ rest) → Stands x xs ys before after
  in_second : (more : List A) → before ≡ xs ++ more → ys ≡ more ++ (x ∷ after) → Stands x xs ys before after

pub stands : {A : Type 0} (x : A) (xs ys before after : List A) → xs ++ ys ≡ before ++ (x ∷ after) → Stands x xs ys before after
stands x [] ys before after is = in_second before refl is
stands x (z ∷ xs) ys [] after is = in_first xs (ap (λ y. y ∷ xs) (heads z x (xs ++ ys) after is))
stands x (z ∷ xs) ys (b ∷ before) after is = go (stands x xs ys before after (tails z b (xs ++ ys) (before ++ (x ∷ after)) is))
  where
    same : z ≡ b
    same = heads z b (xs ++ ys) (before ++ (x ∷ after)) is

    go : Stands x xs ys before after → Stands x (z ∷ xs) ys (b ∷ before) after
    go (in_first rest r) = in_first rest (ap (λ y. y ∷ xs) same ∙ ap (λ zs. b ∷ zs) r)
    go (in_second more r s) = in_second more (ap (λ zs. b ∷ zs) r ∙ ap (λ y. y ∷ (xs ++ more)) (sym same)) s

-- none stands in an empty one
pub not_in_none : {A : Type 0} (x : A) (before after : List A) → [] ≡ before ++ (x ∷ after) → ⊥
not_in_none x [] after is = cc
not_in_none x (b ∷ before) after is = cc

-- in one of one it is that
pub only_one : {A : Type 0} (x y : A) (before after : List A) → y ∷ [] ≡ before ++ (x ∷ after) → (y ≡ x) × (before ≡ [])
only_one x y [] after is = (heads y x [] after is, refl)
only_one x y (b ∷ before) after is = absurd (not_in_none x before after (tails y b [] (before ++ (x ∷ after)) is))
