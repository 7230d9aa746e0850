-- When an opening is a disk, piece by piece.
use Rattle.std.proofs.Common.{◌≡◌, ◌≢◌, ◌↔◌, ⊎_elim, ℕ, zero, suc, ◌+◌, ◌<◌, List, [], ◌∷◌, length, get_or, drop, All, sym, ap, subst, arith, ◌∙◌}
use Rattle.std.proofs.lemmas.Bool.{cases_eq}
use Rattle.std.proofs.lemmas.List.{drop_more, get_or_default}
use Rattle.lr_host.specs.Lists.{AreDistinct, IsNotIn}
use Rattle.lr_disk.specs.Pairs.{keys}

pub not_in_all : {K V : Type 0} (x : K) (ps : List (K × V)) → All (λ p. x ≢ p.0) ps → IsNotIn x (keys ps)
not_in_all x [] h = tt
not_in_all x (p ∷ ps) h = (h 0 p (omega arith), not_in_all x ps (λ k d lt. h (suc k) d (omega arith)))

pub all_not_in : {K V : Type 0} (x : K) (ps : List (K × V)) → IsNotIn x (keys ps) → All (λ p. x ≢ p.0) ps
all_not_in x [] h = λ k d lt. absurd (omega arith)
all_not_in x (p ∷ ps) h = go (all_not_in x ps h.1)
  where
    go : All (λ q. x ≢ q.0) ps → (k : ℕ) (d : _) → k < length (p ∷ ps) → x ≢ (get_or (p ∷ ps) k d).0
    go later zero d lt = h.0
    go later (suc k) d lt = later k d (omega arith)

-- a pair that no later one repeats
pub once_on : {K V : Type 0} (ps : List (K × V)) (i : ℕ) (d : K × V) → i < length ps → AreDistinct (keys (drop i ps)) ↔ AreDistinct (keys ps) → All (λ p. (get_or ps i d).0 ≢ p.0) (drop (i + 1) ps)
    → AreDistinct (keys (drop (i + 1) ps)) ↔ AreDistinct (keys ps)
once_on ps i d lt so_far new = (
  (λ later. so_far.0 (subst (λ qs. AreDistinct (keys qs)) (sym (drop_more ps i d lt)) (not_in_all (get_or ps i d).0 (drop (i + 1) ps) new, later))),
  (λ all. (subst (λ qs. AreDistinct (keys qs)) (drop_more ps i d lt) (so_far.1 all)).1),
)

pub once_new : {K V : Type 0} (ps : List (K × V)) (i : ℕ) (d : K × V) → i < length ps → AreDistinct (keys (drop i ps)) ↔ AreDistinct (keys ps) → AreDistinct (keys ps) → All (λ p. (get_or ps i d).0 ≢ p.0) (drop (i + 1) ps)
once_new ps i d lt so_far all = all_not_in (get_or ps i d).0 (drop (i + 1) ps) (subst (λ qs. AreDistinct (keys qs)) (drop_more ps i d lt) (so_far.1 all)).0

-- one element more has it
pub each_more : {X : Type 0} (P : X → Type 0) (xs : List X) (i : ℕ) (x : X) → x ≡ get_or xs i x → i < length xs → ((k : ℕ) (d : X) → k < i → P (get_or xs k d)) → P x → (k : ℕ) (d : X) → k < i + 1 → P (get_or xs k d)
each_more P xs i x is lt so_far here k d le =
    ⊎_elim (λ same. subst P (is ∙ (get_or_default xs i x d lt ∙ ap (λ j. get_or xs j d) (sym same))) here) (λ ne. so_far k d (less k ne le)) (cases_eq k i)
  where
    less : (k : ℕ) → k ≢ i → k < i + 1 → k < i
    less k ne le = omega arith

pub all_keys : {K V : Type 0} (P : K → Type 0) (ps : List (K × V)) → All (λ p. P p.0) ps ↔ All P (keys ps)
all_keys P [] = ((λ h k d lt. absurd (omega arith)), (λ h k d lt. absurd (omega arith)))
all_keys P (p ∷ ps) = (there (all_keys P ps), back (all_keys P ps))
  where
    there : All (λ p. P p.0) ps ↔ All P (keys ps) → All (λ p. P p.0) (p ∷ ps) → (k : ℕ) (d : _) → k < length (keys (p ∷ ps)) → P (get_or (keys (p ∷ ps)) k d)
    there r h zero d lt = h 0 p (omega arith)
    there r h (suc k) d lt = r.0 (λ i e l. h (suc i) e (omega arith)) k d (omega arith)

    back : All (λ p. P p.0) ps ↔ All P (keys ps) → All P (keys (p ∷ ps)) → (k : ℕ) (d : _) → k < length (p ∷ ps) → P (get_or (p ∷ ps) k d).0
    back r h zero d lt = h 0 p.0 (omega arith)
    back r h (suc k) d lt = r.1 (λ i e l. h (suc i) e (omega arith)) k d (omega arith)
