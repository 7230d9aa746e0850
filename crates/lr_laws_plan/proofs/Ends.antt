-- Faults of which none ends a run.
use Rattle.std.proofs.Common.{◌≡◌, List, [], ◌∷◌, ◌++◌, subst}
use Rattle.lr_rules.specs.declared.fault.CallKind.{CallKind}
use Rattle.lr_rules.specs.declared.fault.CallKind.TheVariants as call
use Rattle.lr_rules.specs.declared.fault.Fault.{Fault}
use Rattle.lr_rules.specs.declared.fault.Fault.TheVariants as fault
use Rattle.lr_rules.specs.declared.path.Path.{Path}
use Rattle.lr_laws_plan.specs.Ending.{EndsRun, NoneEnds}

pub none_both : (state : Path) (xs ys : List Fault) → NoneEnds state xs → NoneEnds state ys → NoneEnds state (xs ++ ys)
none_both state [] ys a b = b
none_both state (x ∷ xs) ys a b = (a.0, none_both state xs ys a.1 b)

-- the last of them doesn't
pub last_ends : (state : Path) (xs : List Fault) (f : Fault) → NoneEnds state (xs ++ f ∷ []) → EndsRun state f → ⊥
last_ends state [] f a e = a.0 e
last_ends state (x ∷ xs) f a e = last_ends state xs f a.1 e

-- a fault that is this one ends no run where that doesn't
pub is_none : (state : Path) (f g : Fault) → f ≡ g → (EndsRun state g → ⊥) → NoneEnds state (f ∷ [])
is_none state f g is h = ((λ e. h (subst (EndsRun state) is e)), tt)

-- ---- looks and listings that failed

-- a look or a listing
abbrev pub IsLooking : CallKind → Type 0
IsLooking call.Look = Unit {0}
IsLooking call.List = Unit {0}
IsLooking _ = ⊥

pub looking_ends : (state : Path) (k : CallKind) (path : Path) → IsLooking k → EndsRun state (fault.Call k path) → ⊥
looking_ends state call.Look path i e = e
looking_ends state call.List path i e = e
looking_ends state _ path i e = i
