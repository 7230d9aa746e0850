-- Faults of calls that failed.
use Rattle.std.proofs.Common.{◌≡◌, ◌≤◌, ◌<◌, ℕ, zero, suc, ◌+◌, List, [], ◌∷◌, length, get_or, take, refl, sym, ap, ◌∙◌, subst, arith}
use Rattle.lr_rules.specs.declared.fault.Fault.{Fault}
use Rattle.lr_host.specs.Counted.{call_in, calls_in}

sum_none : (a b : ℕ) → a ≡ 0 → b ≡ 0 → a + b ≡ 0
sum_none a b p q = omega (arith, p, q)

-- none among the first, nor is the next
pub so_far : (faults : List Fault) (i : ℕ) (f d : Fault) → f ≡ get_or faults i d → i < length faults → calls_in (take i faults) ≡ 0 → call_in f ≡ 0 → calls_in (take (i + 1) faults) ≡ 0
so_far [] i f d is lt none none_now = absurd (omega (arith, lt))
so_far (g ∷ gs) zero f d is lt none none_now = let e : call_in g ≡ 0 = ap call_in (sym is) ∙ none_now in omega (arith, e)
so_far (g ∷ gs) (suc i) f d is lt none none_now =
    let a : call_in g ≡ 0 = omega (arith, none) in
    let b : calls_in (take i gs) ≡ 0 = omega (arith, none) in
    let r = so_far gs i f d is (omega (arith, lt)) b none_now in
    let e : suc (i + 1) ≡ suc i + 1 = omega arith in
    subst (λ (n : ℕ). calls_in (take n (g ∷ gs)) ≡ 0) e (sum_none (call_in g) (calls_in (take (i + 1) gs)) a r)

pub has_call : (faults : List Fault) (i : ℕ) (f d : Fault) → f ≡ get_or faults i d → i < length faults → call_in f ≡ 1 → calls_in faults ≡ 0 → ⊥
has_call [] i f d is lt one none = absurd (omega (arith, lt))
has_call (g ∷ gs) zero f d is lt one none = let e : call_in g ≡ 1 = ap call_in (sym is) ∙ one in omega (arith, e, none)
has_call (g ∷ gs) (suc i) f d is lt one none = has_call gs i f d is (omega (arith, lt)) one (omega (arith, none))

pub at_end : (faults : List Fault) (i : ℕ) → length faults ≤ i → calls_in (take i faults) ≡ 0 → calls_in faults ≡ 0
at_end [] i le none = refl
at_end (g ∷ gs) zero le none = absurd (omega (arith, le))
at_end (g ∷ gs) (suc i) le none =
    let a : call_in g ≡ 0 = omega (arith, none) in
    let b : calls_in (take i gs) ≡ 0 = omega (arith, none) in
    let r = at_end gs i (omega (arith, le)) b in
    omega (arith, a, r)
