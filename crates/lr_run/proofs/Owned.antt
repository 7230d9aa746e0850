-- What is done to a log changes own names of it, or makes the directory of its family.
use Rattle.std.proofs.Common.{◌⊎◌, inl, inr, ⊎_elim, refl, subst, [], ◌∷◌}
use Rattle.lr_rules.specs.declared.path.Path.{Path}
use Rattle.lr_rules.specs.Names.{IsOwnName}
use Rattle.lr_host.specs.declared.entry.Entry.{Entry}
use Rattle.lr_host.specs.declared.entry.Entry.TheVariants as entry
use Rattle.lr_host.specs.Lists.{IsIn}
use Rattle.lr_laws.specs.Follow.{changed_paths}
use Rattle.lr_laws_rotations.specs.AllTurns.{IsItsDir, IsOf}
use Rattle.lr_laws_rotations.specs.Apart.{HasNames}
use Rattle.lr_laws_rotations.specs.Target.{Target}
use Rattle.lr_laws_rotations.specs.Own.{MakesItsDir}
use Rattle.lr_laws_rotations.proofs.Own.{own_or_makes}

-- ---- what is done to a log

in_one : (P : Path → Type 0) (y x : Path) → P y → IsIn x (y ∷ []) → P x
in_one P y x p (inl same) = subst P same p
in_one P y x p (inr none) = absurd none

made_its : (t : Target) (e : Entry) → MakesItsDir t e → (x : Path) → IsIn x (changed_paths e) → IsItsDir t x
made_its t (entry.MakesDir y mode) d x i = in_one (IsItsDir t) y x d i
made_its t _ none x i = absurd none

-- each path that is changed is an own name, or that of the directory
pub own_or_dir : (t : Target) → HasNames t → (e : Entry) → IsOf t e → (x : Path) → IsIn x (changed_paths e) → IsOwnName t.log t.naming x ⊎ IsItsDir t x
own_or_dir t h e i x j = ⊎_elim (λ own. inl (own x j)) (λ makes. inr (made_its t e makes x j)) (own_or_makes t e h i)

-- each that is unlinked is an own name
pub unlinked_own : (t : Target) → HasNames t → (x : Path) → IsOf t (entry.Unlinks x) → IsOwnName t.log t.naming x
unlinked_own t h x i = ⊎_elim (λ own. own x (inl refl)) (λ none. absurd none) (own_or_makes t (entry.Unlinks x) h i)
