-- The last of a list.
use Rattle.std.proofs.Common.{◌≡◌, ℕ, suc, ◌+◌, ◌<◌, ◌-◌, List, [], ◌∷◌, ◌++◌, length, get_or, refl, ap, ◌∙◌, arith}
use Rattle.lr_conf.specs.Fields.{last_or}

pub last_at : {A : Type 0} (d e : A) (xs : List A) → 0 < length xs → last_or d xs ≡ get_or xs (length xs - 1) e
last_at d e [] h = absurd (omega arith)
last_at d e (x ∷ []) h = refl
last_at d e (x ∷ y ∷ ys) h =
    let n : length (x ∷ y ∷ ys) - 1 ≡ length (y ∷ ys) - 1 + 1 = omega arith in
    last_at x e (y ∷ ys) (omega arith) ∙ behind (length (y ∷ ys) - 1) (length (x ∷ y ∷ ys) - 1) n
  where
    behind : (k m : ℕ) → m ≡ k + 1 → get_or (y ∷ ys) k e ≡ get_or (x ∷ y ∷ ys) m e
    behind k m is = let s : suc k ≡ m = omega arith in ap (λ i. get_or (x ∷ y ∷ ys) i e) s

-- what stands last
pub last_behind : {A : Type 0} (d x : A) (xs : List A) → last_or d (xs ++ x ∷ []) ≡ x
last_behind d x [] = refl
last_behind d x (y ∷ ys) = last_behind y x ys
