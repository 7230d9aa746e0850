-- What each of a list gives, one behind the other.
use Rattle.std.specs.Prelude.{◌≡◌, List, [], ◌∷◌, ◌++◌}
use Rattle.lr_rules.specs.declared.path.Path.{Path}

-- Each of these gives its paths, and these are all, in order.
pub data Gathers {X : Type 0} (P : X → List Path → Type 0) : List X → List Path → Type 0 where
  none : Gathers P [] []
  more : (x : X) (xs : List X) (its paths : List Path) → P x its → Gathers P xs paths → Gathers P (x ∷ xs) (its ++ paths)

-- the paths that P says of were added
abbrev pub AddsPaths : (List Path → Type 0) → List Path → List Path → Type 0
AddsPaths P before now = (its : List Path) × P its × (now ≡ before ++ its)
