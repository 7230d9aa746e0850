-- Looks that are alike in all that a plan depends on.
use Rattle.std.specs.Prelude.{◌≡◌, ◌+◌, ℕ, List, [], ◌∷◌, map}
use Rattle.lr_plan.specs.declared.looks.SetLooks.{SetLooks}
use Rattle.lr_looks.specs.Sets.{looked_in}

-- the same logs of each definition, with the same looks; the first of the definitions has this place
abbrev pub AreAlikeFrom : ℕ → List SetLooks → List SetLooks → Type 0
AreAlikeFrom set [] [] = Unit {0}
AreAlikeFrom set (x ∷ xs) (y ∷ ys) = (map (looked_in set) x.logs ≡ map (looked_in set) y.logs) × AreAlikeFrom (set + 1) xs ys
AreAlikeFrom set _ _ = ⊥

abbrev pub AreAlike : List SetLooks → List SetLooks → Type 0
AreAlike sets others = AreAlikeFrom 0 sets others
