-- What the acts may change, as far as their marks allow it.
use Rattle.std.specs.Prelude.{◌≡◌, ℕ, List, [], Option, Some, None}
use Rattle.lr_rules.specs.declared.path.Path.{Path}
use Rattle.lr_host.specs.declared.entry.Entry.{Entry}
use Rattle.lr_host.specs.declared.entry.Entry.TheVariants as entry
use Rattle.lr_host.specs.Lists.{IsIn}
use Rattle.lr_plan.specs.declared.mark.Mark.{Mark}
use Rattle.lr_plan.specs.declared.mark.Mark.TheVariants as mark
use Rattle.lr_laws_rotations.specs.AllTurns.{IsOf}
use Rattle.lr_laws_rotations.specs.Target.{Target}

-- the one list of marks has all of the other
abbrev pub HasAll : List Mark → List Mark → Type 0
HasAll more fewer = (m : Mark) → IsIn m fewer → IsIn m more

-- what is allowed, by what was marked
abbrev pub Allowed : Type 1
Allowed = List Mark → Entry → Type 0

-- more marks allow more
abbrev pub AllowsMore : Allowed → Type 0
AllowsMore P = (more fewer : List Mark) → HasAll more fewer → (e : Entry) → P fewer e → P more e

-- All that is done to the log is allowed: where its rotation makes no directory, whatever is marked; else the making of the directory is, and all else once that is marked. No leftover goes before.
pub record AllowsLog (P : Allowed) (t : Target) : Type 0 where
  pub plain : t.ready.dir ≡ None → (marks : List Mark) (e : Entry) → IsOf t e → P marks e
  pub made : (dir : Path) (mode : Option ℕ) → t.ready.dir ≡ Some (dir, mode) → (marks : List Mark) → P marks (entry.MakesDir dir mode)
  pub behind : (dir : Path) (mode : Option ℕ) → t.ready.dir ≡ Some (dir, mode) → (marks : List Mark) → IsIn (mark.Directory dir) marks → (e : Entry) → IsOf t e → P marks e
  pub no_leftovers : (dir : Path) (mode : Option ℕ) → t.ready.dir ≡ Some (dir, mode) → t.ready.leftovers ≡ []
