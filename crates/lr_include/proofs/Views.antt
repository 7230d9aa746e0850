-- The paths of a set as clauses see them.
use Rattle.std.proofs.Common.{◌≡◌, ◌∙◌, ap, refl, ℕ, Bool, false, List, [], ◌∷◌, ◌++◌, ◌||◌, map, Vec, Global, cond}
use Rattle.std.specs.Str.{bytes_eq}
use Rattle.std.specs.List.{list_any}
use Rattle.indexmap.specs.IndexSet.{insert_key}

abbrev pub shown : Vec ℕ Global → List ℕ
shown p = p.items

abbrev pub same : Vec ℕ Global → Vec ℕ Global → Bool
same x y = bytes_eq x.items y.items

pub any-shown : (path : List ℕ) (keys : List (Vec ℕ Global)) → list_any (λ k. bytes_eq path k.items) keys ≡ list_any (bytes_eq path) (map shown keys)
any-shown path [] = refl
any-shown path (k ∷ ks) = ap (λ b. bytes_eq path k.items || b) (any-shown path ks)

shown-behind : (keys : List (Vec ℕ Global)) (key : Vec ℕ Global) → map shown (keys ++ key ∷ []) ≡ map shown keys ++ key.items ∷ []
shown-behind [] key = refl
shown-behind (k ∷ ks) key = ap (λ ps. k.items ∷ ps) (shown-behind ks key)

-- a path that is none of them goes last
pub inserted-new : (path : List ℕ) (keys : List (Vec ℕ Global)) (key : Vec ℕ Global) → key.items ≡ path → list_any (bytes_eq path) (map shown keys) ≡ false
    → map shown (insert_key same keys key) ≡ map shown keys ++ path ∷ []
inserted-new path keys key is none =
    ap (λ b. map shown (cond b keys (keys ++ key ∷ []))) (any-shown key.items keys ∙ ap (λ p. list_any (bytes_eq p) (map shown keys)) is ∙ none)
    ∙ shown-behind keys key ∙ ap (λ p. map shown keys ++ p ∷ []) is
