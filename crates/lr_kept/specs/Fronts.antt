-- What the names of a log begin with, and how the logs that a log may meet are found by that.
use Rattle.std.specs.Prelude.{◌≡◌, ◌⊎◌, ◌<◌, ◌≤◌, ℕ, true, List, [], ◌∷◌, ◌++◌, Option, Some, None, length, slice_get, nat_eq, All}
use Rattle.std.specs.Prelude.{Contains, if◌then◌else◌}
use Rattle.std.specs.Borrow.{Bor}
use Rattle.std.specs.Ordering.{nat_cmp}
use Rattle.std.specs.Cmp.Lexicographic.{slice_cmp}
use Rattle.std.specs.List.{starts_with}
use Rattle.std.specs.List.Sorted.{IsSortedByKey}
use Rattle.lr_rules.specs.Path.{joined}
use Rattle.lr_rules.specs.Names.{aside_path}
use Rattle.lr_rules.specs.declared.rule.Naming.{Naming}
use Rattle.lr_rules.specs.declared.rule.Format.{Format}
use Rattle.lr_rules.specs.declared.rule.Piece.{Piece}
use Rattle.lr_rules.specs.declared.rule.Piece.TheVariants as piece
use Rattle.lr_shapes.specs.Fronts.{Begins}
use Rattle.lr_family.specs.declared.family.Family.{Family}
use Rattle.lr_kept.specs.declared.choice.Choice.{Choice}
use Rattle.lr_kept.specs.declared.front.Front.{Front}
use Rattle.lr_kept.specs.Chosen.{IsKeptAt}

-- the bytes of a stamp before its first field
abbrev pub before_field : List Piece → List ℕ
before_field [] = []
before_field (piece.Byte b ∷ pieces) = b ∷ before_field pieces
before_field (piece.Field f ∷ pieces) = []

-- what stands behind the base in each member's name: a dot, or what a stamp begins with
abbrev pub middle_front : Option Format → List ℕ
middle_front None = 46 ∷ []
middle_front (Some format) = before_field format.pieces

-- what the paths of the members and of their part files begin with
abbrev pub member_front : Naming → List ℕ
member_front n = joined n.dir (n.base ++ middle_front n.dated)

-- what the paths of what stands in a directory begin with
abbrev pub below : List ℕ → List ℕ
below dir = dir ++ 47 ∷ []

abbrev pub front_at : ℕ → List ℕ → Front
front_at place bytes = record { bytes = bytes; place = place }

-- the path where the log waits, where it is set aside
abbrev pub aside_front : Family → ℕ → List Front
aside_front f place = if f.naming.aside then front_at place (aside_path f.log) ∷ [] else []

-- the fronts of a log: its path, that of its members, the family's directory as what stands in it has it, and where it waits
abbrev pub fronts_at : Family → ℕ → List Front
fronts_at f place = front_at place f.log ∷ front_at place (member_front f.naming) ∷ front_at place (below f.naming.dir) ∷
    aside_front f place

-- they stand in order of bytes
abbrev pub AreInOrder : List Front → Type 0
AreInOrder fronts = IsSortedByKey (λ f. f.bytes) (slice_cmp nat_cmp) fronts

-- each between these two places begins with these bytes
abbrev pub AreBegunWithin : List Front → List ℕ → ℕ → ℕ → Type 0
AreBegunWithin fronts begin from to = (t : ℕ) (f : Front) → slice_get fronts t ≡ Some f → from ≤ t → t < to
    → starts_with nat_eq f.bytes begin ≡ true

-- These are the fronts of the first n logs, those left out that aren't kept.
pub record HaveFronts (logs : List (Bor Family)) (choices : List Choice) (n : ℕ) (fronts : List Front) : Type 0 where
  pub places : All (λ f. f.place < length logs) fronts
  pub each : (k : ℕ) (f : Bor Family) → k < n → slice_get logs k ≡ Some f → IsKeptAt choices k
      → All (Contains fronts) (fronts_at f.now k)

-- the fronts of the log at this place come, unless it is left out
abbrev pub AddsFronts : List (Bor Family) → List Choice → ℕ → List Front → List Front → Type 0
AddsFronts logs choices place old new = ((f : Bor Family) × (slice_get logs place ≡ Some f) × (new ≡ old ++ fronts_at f.now place))
    ⊎ ((IsKeptAt choices place → ⊥) × (new ≡ old))

-- a log looks for those that it may meet among what begins with its members' front, in the directory that is its path, and among
-- what begins with the path where it waits
abbrev pub FindsFront : Family → List ℕ → Type 0
FindsFront f bytes = Begins (member_front f.naming) bytes ⊎ (Begins (below f.log) bytes
    ⊎ ((f.naming.aside ≡ true) × Begins (aside_path f.log) bytes))
