-- The places of what is removed behind the moves.
use Rattle.std.proofs.Common.{◌≡◌, ℕ, suc, ◌<◌, Bool, true, false, ◌||◌, ◌==◌, cond, List, [], ◌∷◌, refl, ap, ◌∙◌, arith}
use Rattle.std.proofs.lemmas.Bool.Decides.{nat_tests}
use Rattle.lr_rules.specs.declared.rule.Count.{Count}
use Rattle.lr_family.proofs.Numbers.{Every, Falls, every_as}
use Rattle.lr_chain.specs.Rotation.{is_left, retired}
use Rattle.lr_chain.proofs.Has.{has, not_same}

-- what holds of each new place, and of the log's where none is kept, holds of each of them
pub every_retired : (P : ℕ → Type 0) (c : Count) (from : List ℕ) → Every (λ k. P (suc k)) from → (is_left c 0 ≡ true → P 0) → Every P (retired c from)
every_retired P c [] a z = ends (is_left c 0) refl
  where
    ends : (b : Bool) → is_left c 0 ≡ b → Every P (cond b (0 ∷ []) [])
    ends true e = (z e, tt)
    ends false e = tt
every_retired P c (k ∷ from) a z = (a.0, every_retired P c from a.1 z)

pub retired_falls : (c : Count) (from : List ℕ) → Falls from → Falls (retired c from)
retired_falls c [] f = ends (is_left c 0)
  where
    ends : (b : Bool) → Falls (cond b (0 ∷ []) [])
    ends true = (tt, tt)
    ends false = tt
retired_falls c (k ∷ from) f = (every_retired (λ j. j < suc k) c from (every_as (λ j. j < k) (λ j. suc j < suc k) from (λ j lt. omega (arith, lt)) f.0) (λ e. omega arith), retired_falls c from f.1)

pub has_first : (c : Count) (from : List ℕ) → has 0 (retired c from) ≡ is_left c 0
has_first c [] = ends (is_left c 0)
  where
    ends : (b : Bool) → has 0 (cond b (0 ∷ []) []) ≡ b
    ends true = refl
    ends false = refl
has_first c (k ∷ from) = ap (λ b. b || has 0 (retired c from)) (not_same (suc k) 0 (λ e. omega (arith, e))) ∙ has_first c from

pub has_new : (c : Count) (k : ℕ) (from : List ℕ) → has (suc k) (retired c from) ≡ has k from
has_new c k [] = ends (is_left c 0)
  where
    ends : (b : Bool) → has (suc k) (cond b (0 ∷ []) []) ≡ false
    ends true = ap (λ b. b || false) (not_same 0 (suc k) (λ e. omega (arith, e)))
    ends false = refl
has_new c k (j ∷ from) = ap (λ b. b || has (suc k) (retired c from)) same ∙ ap (λ b. (j == k) || b) (has_new c k from)
  where
    same : (suc j == suc k) ≡ (j == k)
    same = grind (arith, nat_tests)
