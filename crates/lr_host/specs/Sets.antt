-- A log and its members, and the place of a member.
use Rattle.std.specs.Prelude.{◌≡◌, ◌⊎◌, ◌↔◌, ◌≤◌, ℕ, Bool, true, ◌||◌, ◌&&◌, List, [], ◌∷◌, length, bytes_eq, ℤ, pos, ◌<ℤ◌, Option}
use Rattle.std.specs.Prelude.{Some, None, is_some}
use Rattle.lr_rules.specs.declared.path.Path.{Path}
use Rattle.lr_rules.specs.declared.rule.Naming.{Naming}
use Rattle.lr_rules.specs.declared.rule.Format.{Format}
use Rattle.lr_rules.specs.Names.{aside_path, IsMemberAt}
use Rattle.lr_rules.specs.Dated.{stamp_key, IsDatedAt}
use Rattle.lr_rules.specs.Path.{path_fault}
use Rattle.lr_host.specs.Lists.{AreDistinct}
use Rattle.lr_host.specs.World.{Names}
use Rattle.lr_host.specs.Fits.{IsFileAt}

-- How members follow one another: by the number in their name, or by the moment of their stamp.
pub data Order : Type 0 where
  Numbered : Order
  Dated : Order

abbrev pub order_of : Option Format → Order
order_of None = Numbered
order_of (Some format) = Dated

-- The key of each path is what the naming says: a numbered member's is its place, that of a dated one its stamp's seconds and its
-- serial number as one number (`stamp_key`), and no other path has one.
abbrev pub IsKeyBy : Order → Naming → (Path → Option ℤ) → Type 0
IsKeyBy Numbered n key = (x : Path) (k : ℤ) → (key x ≡ Some k) ↔ ((place : ℕ) × (k ≡ pos place) × IsMemberAt n place x)
IsKeyBy Dated n key = (x : Path) (k : ℤ) → (key x ≡ Some k) ↔ ((seconds : ℤ) × (serial : ℕ) × (k ≡ stamp_key seconds serial)
    × IsDatedAt n seconds serial x)

-- A log, which is a path, and the naming of its members, of which it is none.
pub record LogSet : Type 0 where
  pub log : Path
  pub log_path : path_fault log ≡ None
  pub naming : Naming
  -- of a numbered member its place, of a dated one the moment of its stamp with its serial number, None at every other path
  pub key : Path → Option ℤ
  pub keys : IsKeyBy (order_of naming.dated) naming key
  pub log_apart : key log ≡ None

abbrev pub order : LogSet → Order
order s = order_of s.naming.dated

-- the path is the log or a member
abbrev pub in_set : LogSet → Path → Bool
in_set s x = bytes_eq s.log x || is_some (s.key x)

-- The path is that where the log waits while it is set aside: the naming asks for one, and no member has it.
pub record IsAsideOf (s : LogSet) (x : Path) : Type 0 where
  pub asked : s.naming.aside ≡ true
  pub path : x ≡ aside_path s.log
  pub keyless : s.key x ≡ None

-- the path is the log, or that where the log waits while it is set aside: what stands there has no place
abbrev pub IsUnplaced : LogSet → Path → Type 0
IsUnplaced s x = (x ≡ s.log) ⊎ IsAsideOf s x

-- the same as a test, where the path is no member
abbrev pub is_unplaced : LogSet → Path → Bool
is_unplaced s x = bytes_eq s.log x || (s.naming.aside && bytes_eq (aside_path s.log) x)

-- the path is the log, that where it waits while it is set aside, or a member
abbrev pub in_reach : LogSet → Path → Bool
in_reach s x = is_unplaced s x || is_some (s.key x)

-- a member that names a file and has a later stamp
abbrev pub IsLaterMember : (Path → Option ℤ) → Names → ℤ → Path → Type 0
IsLaterMember key n t y = IsFileAt n y × ((u : ℤ) × (key y ≡ Some u) × (t <ℤ u))

abbrev pub AreLaterMembers : (Path → Option ℤ) → Names → ℤ → List Path → Type 0
AreLaterMembers key n t [] = Unit {0}
AreLaterMembers key n t (y ∷ ys) = IsLaterMember key n t y × AreLaterMembers key n t ys

-- The path is a member whose place is at most the limit. The place of a numbered member is its key, that of a dated one the number
-- of later members that name files.
abbrev pub IsWithin : Order → (Path → Option ℤ) → Names → Path → ℕ → Type 0
IsWithin Numbered key n x limit = (place : ℕ) × (key x ≡ Some (pos place)) × (place ≤ limit)
IsWithin Dated key n x limit = (t : ℤ) × (key x ≡ Some t) × ((ys : List Path) → AreDistinct ys → AreLaterMembers key n t ys
    → length ys ≤ limit)
