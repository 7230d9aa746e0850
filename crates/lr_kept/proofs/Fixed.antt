-- That the choice is determined.
use Rattle.std.proofs.Common.{◌≡◌, ◌∙◌, sym, ap, refl, ⊎_elim, ℕ, zero, suc, ◌<◌, ◌≤◌, List, [], ◌∷◌, length, get_or, Some, slice_get, Bool, arith}
use Rattle.std.specs.Borrow.{Bor}
use Rattle.std.proofs.lemmas.Bool.{cases_lt, cases_order}
use Rattle.std.proofs.lemmas.Option.{slice_get-get_or, slice_get_past, same_Some}
use Rattle.lr_rules.specs.declared.path.Path.{Path}
use Rattle.lr_family.specs.declared.family.Family.{Family}
use Rattle.lr_kept.specs.declared.choice.Choice.{Choice}
use Rattle.lr_kept.specs.declared.choice.Choice.TheVariants.{Kept, Again, MemberOf, Reserved, Meets}
use Rattle.lr_kept.specs.Chosen.{IsChoice, AreChosen}

same_list : (xs ys : List Choice) → ((k : ℕ) → slice_get xs k ≡ slice_get ys k) → xs ≡ ys
same_list [] [] h = refl
same_list [] (y ∷ ys) h = absurd (cc (h 0))
same_list (x ∷ xs) [] h = absurd (cc (h 0))
same_list (x ∷ xs) (y ∷ ys) h = ap (λ z. z ∷ xs) (same_Some x y (h 0)) ∙ ap (λ zs. y ∷ zs) (same_list xs ys (λ k. h (suc k)))

-- neither of two numbers is below the other
neither : (i k : ℕ) → (i < k → ⊥) → (k < i → ⊥) → i ≡ k
neither i k f g = ⊎_elim (λ (e : i ≡ k). e) (λ s. absurd (⊎_elim f g s)) (cases_order i k)

module _ (logs : List (Bor Family)) (wild : List Bool) (reserved : List Path) (a b : List Choice) where
  -- where the choices before it are the same, this one is
  this_one : (k : ℕ) → ((j : ℕ) → j < k → slice_get a j ≡ slice_get b j) → (c d : Choice) → IsChoice logs wild reserved a k c → IsChoice logs wild reserved b k d → c ≡ d
  this_one k same Kept Kept x y = refl
  this_one k same Kept (Again j) x y = absurd (x.new j y.before y.same)
  this_one k same Kept (MemberOf j) x y = absurd (x.no_member j y.is)
  this_one k same Kept (Reserved j) x y = absurd (x.free j y.has)
  this_one k same Kept (Meets j) x y = absurd (x.apart j y.before (same j y.before ∙ y.kept) y.meet)
  this_one k same (Again i) Kept x y = absurd (y.new i x.before x.same)
  this_one k same (Again i) (Again j) x y = ap (λ m. Again m) (neither i j (λ lt. y.first i lt x.same) (λ lt. x.first j lt y.same))
  this_one k same (Again i) (MemberOf j) x y = absurd (y.new i x.before x.same)
  this_one k same (Again i) (Reserved j) x y = absurd (y.new i x.before x.same)
  this_one k same (Again i) (Meets j) x y = absurd (y.new i x.before x.same)
  this_one k same (MemberOf i) Kept x y = absurd (y.no_member i x.is)
  this_one k same (MemberOf i) (Again j) x y = absurd (x.new j y.before y.same)
  this_one k same (MemberOf i) (MemberOf j) x y = ap (λ m. MemberOf m) (neither i j (λ lt. y.first i lt x.is) (λ lt. x.first j lt y.is))
  this_one k same (MemberOf i) (Reserved j) x y = absurd (y.no_member i x.is)
  this_one k same (MemberOf i) (Meets j) x y = absurd (y.no_member i x.is)
  this_one k same (Reserved i) Kept x y = absurd (y.free i x.has)
  this_one k same (Reserved i) (Again j) x y = absurd (x.new j y.before y.same)
  this_one k same (Reserved i) (MemberOf j) x y = absurd (x.no_member j y.is)
  this_one k same (Reserved i) (Reserved j) x y = ap (λ m. Reserved m) (neither i j (λ lt. y.first i lt x.has) (λ lt. x.first j lt y.has))
  this_one k same (Reserved i) (Meets j) x y = absurd (y.free i x.has)
  this_one k same (Meets i) Kept x y = absurd (y.apart i x.before (sym (same i x.before) ∙ x.kept) x.meet)
  this_one k same (Meets i) (Again j) x y = absurd (x.new j y.before y.same)
  this_one k same (Meets i) (MemberOf j) x y = absurd (x.no_member j y.is)
  this_one k same (Meets i) (Reserved j) x y = absurd (x.free j y.has)
  this_one k same (Meets i) (Meets j) x y = ap (λ m. Meets m) (neither i j (λ lt. y.first i lt (sym (same i x.before) ∙ x.kept) x.meet) (λ lt. x.first j lt (same j y.before ∙ y.kept) y.meet))

  module _ (x : AreChosen logs wild reserved a) (y : AreChosen logs wild reserved b) where
    next : (k : ℕ) → ((j : ℕ) → j < k → slice_get a j ≡ slice_get b j) → slice_get a k ≡ slice_get b k
    next k same = ⊎_elim
        (λ (lt : k < length a).
        let there : k < length b = omega (arith, x.as_many, y.as_many) in
        let here_a = slice_get-get_or a k Kept lt in
        let here_b = slice_get-get_or b k Kept there in
        here_a ∙ ap (λ (c : Choice). Some c) (this_one k same (get_or a k Kept) (get_or b k Kept) (x.each k (get_or a k Kept) here_a) (y.each k (get_or b k Kept) here_b)) ∙ sym here_b)
        (λ (le : length a ≤ k).
        let past : length b ≤ k = omega (arith, x.as_many, y.as_many) in
        slice_get_past a k le ∙ sym (slice_get_past b k past))
        (cases_lt k (length a))

    below : (n k : ℕ) → k < n → slice_get a k ≡ slice_get b k
    below zero k lt = absurd (let l : k < 0 = lt in omega arith)
    below (suc n) k lt = ⊎_elim
        (λ (lo : k < n). below n k lo)
        (λ (hi : n ≤ k). next k (λ j less. below n j (let l : j < k = less in omega arith)))
        (cases_lt k n)

    pub one_choice : a ≡ b
    one_choice = same_list a b (λ k. below (suc k) k (omega arith))
