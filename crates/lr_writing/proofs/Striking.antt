-- What a set of directories has, once one is added or struck.
use Rattle.std.proofs.Common.{◌≡◌, ◌∙◌, refl, ap, List, ℕ, [], ◌∷◌, Bool, true, false, cond, not, ◌&&◌, ◌||◌}
use Rattle.std.specs.Str.{bytes_eq}
use Rattle.std.proofs.lemmas.Cmp.{nat_list_eq_equiv}
use Rattle.std.specs.List.{list_any}

-- where one is added, a path is in the set exactly where it was, or it's this one
pub added : (dir path : List ℕ) (old : Bool) → cond (bytes_eq dir path) true old ≡ (old || bytes_eq path dir)
added dir path old = by old (bytes_eq dir path) ∙ ap (λ b. old || b) (nat_list_eq_equiv.symm dir path)
  where
    by : (old b : Bool) → cond b true old ≡ (old || b)
    by true true = refl
    by true false = refl
    by false true = refl
    by false false = refl

-- where one is struck, a path is in it exactly where it was, and isn't this one
pub struck : (dir path : List ℕ) (old : Bool) → cond (bytes_eq dir path) false old ≡ (old && not (list_any (bytes_eq path) (dir ∷ [])))
struck dir path old = by old (bytes_eq dir path) ∙ ap (λ b. old && not (b || false)) (nat_list_eq_equiv.symm dir path)
  where
    by : (old b : Bool) → cond b false old ≡ (old && not (b || false))
    by true true = refl
    by true false = refl
    by false true = refl
    by false false = refl
