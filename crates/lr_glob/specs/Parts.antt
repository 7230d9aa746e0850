-- The parts of a word, and the paths that one of them gives in a directory.
use Rattle.std.specs.Prelude.{◌≡◌, ℕ, true, List, [], ◌∷◌, drop, chars, None}
use Rattle.std.specs.List.{slice_split}
use Rattle.lr_rules.specs.declared.path.Path.{Path}
use Rattle.lr_rules.specs.Match.{Matches}
use Rattle.lr_rules.specs.Path.{path_fault, joined, is_slash}

-- what stands behind the slashes of an absolute word
abbrev pub parts_in : List ℕ → List (List ℕ)
parts_in word = slice_split is_slash (drop 1 word)

-- the path of a name in the directory; none where that is no path
pub data JoinOf (dir : Path) (name : List ℕ) : List Path → Type 0 where
  is_path : path_fault (joined dir name) ≡ None → JoinOf dir name (joined dir name ∷ [])
  no_path : (path_fault (joined dir name) ≡ None → ⊥) → JoinOf dir name []

-- the path of a name that the part matches; none of another
pub data PickOf (part : List ℕ) (dir : Path) (name : List ℕ) : List Path → Type 0 where
  matched : (paths : List Path) → Matches true (chars part) (chars name) → JoinOf dir name paths → PickOf part dir name paths
  other : (Matches true (chars part) (chars name) → ⊥) → PickOf part dir name []
