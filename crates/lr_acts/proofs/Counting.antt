-- How many steps there are.
use Rattle.std.proofs.Common.{◌≡◌, ◌<◌, ◌+◌, ℕ, List, [], ◌∷◌, ◌++◌, length, take, get_or, ap, ◌∙◌, arith}
use Rattle.std.proofs.lemmas.List.{length-append, take_more}
use Rattle.lr_plan.specs.declared.step.Step.{Step}
use Rattle.lr_plan.specs.declared.step.SetSteps.{SetSteps}
use Rattle.lr_acts.specs.Making.{all_of_each, all_of_set, all_of_sets}

each_on : (xs : List (List Step)) (y : List Step) → length (all_of_each (xs ++ y ∷ [])) ≡ length (all_of_each xs) + length y
each_on [] y = length-append y [] ∙ (let e : length y + 0 ≡ 0 + length y = omega arith in e)
each_on (x ∷ xs) y =
    let a : length (x ++ all_of_each (xs ++ y ∷ [])) ≡ length x + length (all_of_each (xs ++ y ∷ [])) = length-append x (all_of_each (xs ++ y ∷ [])) in
    let b : length (all_of_each (xs ++ y ∷ [])) ≡ length (all_of_each xs) + length y = each_on xs y in
    let c : length (x ++ all_of_each xs) ≡ length x + length (all_of_each xs) = length-append x (all_of_each xs) in
    omega (arith, a, b, c)

pub each_more : (xs : List (List Step)) (at count next : ℕ) (y : List Step) → at < length xs → y ≡ get_or xs at y → count ≡ length (all_of_each (take at xs)) → next ≡ count + length y → next ≡ length (all_of_each (take (at + 1) xs))
each_more xs at count next y lt e f g =
    let a : length (all_of_each (take (at + 1) xs)) ≡ length (all_of_each (take at xs ++ get_or xs at y ∷ [])) = ap (λ l. length (all_of_each l)) (take_more xs at y lt) in
    let b : length (all_of_each (take at xs ++ get_or xs at y ∷ [])) ≡ length (all_of_each (take at xs)) + length (get_or xs at y) = each_on (take at xs) (get_or xs at y) in
    let c : length y ≡ length (get_or xs at y) = ap length e in
    omega (arith, a, b, c, f, g)

sets_on : (xs : List SetSteps) (y : SetSteps) → length (all_of_sets (xs ++ y ∷ [])) ≡ length (all_of_sets xs) + length (all_of_set y)
sets_on [] y = length-append (all_of_set y) [] ∙ (let e : length (all_of_set y) + 0 ≡ 0 + length (all_of_set y) = omega arith in e)
sets_on (x ∷ xs) y =
    let a : length (all_of_set x ++ all_of_sets (xs ++ y ∷ [])) ≡ length (all_of_set x) + length (all_of_sets (xs ++ y ∷ [])) = length-append (all_of_set x) (all_of_sets (xs ++ y ∷ [])) in
    let b : length (all_of_sets (xs ++ y ∷ [])) ≡ length (all_of_sets xs) + length (all_of_set y) = sets_on xs y in
    let c : length (all_of_set x ++ all_of_sets xs) ≡ length (all_of_set x) + length (all_of_sets xs) = length-append (all_of_set x) (all_of_sets xs) in
    omega (arith, a, b, c)

pub sets_more : (xs : List SetSteps) (at count next : ℕ) (y : SetSteps) → at < length xs → y ≡ get_or xs at y → count ≡ length (all_of_sets (take at xs)) → next ≡ count + length (all_of_set y) → next ≡ length (all_of_sets (take (at + 1) xs))
sets_more xs at count next y lt e f g =
    let a : length (all_of_sets (take (at + 1) xs)) ≡ length (all_of_sets (take at xs ++ get_or xs at y ∷ [])) = ap (λ l. length (all_of_sets l)) (take_more xs at y lt) in
    let b : length (all_of_sets (take at xs ++ get_or xs at y ∷ [])) ≡ length (all_of_sets (take at xs)) + length (all_of_set (get_or xs at y)) = sets_on (take at xs) (get_or xs at y) in
    let c : length (all_of_set y) ≡ length (all_of_set (get_or xs at y)) = ap (λ (s : SetSteps). length (all_of_set s)) e in
    omega (arith, a, b, c, f, g)
