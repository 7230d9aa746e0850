-- The members that a listing names, in order of bytes.
use Rattle.std.specs.Prelude.{◌≡◌, ◌+◌, ◌⊎◌, ◌↔◌, ℕ, List, All, Contains}
use Rattle.std.specs.declared.cmp.Ordering.{Ordering}
use Rattle.std.specs.List.Sorted.{IsStrictlySortedBy}
use Rattle.lr_rules.specs.declared.path.Path.{Path}
use Rattle.lr_rules.specs.declared.rule.Naming.{Naming}
use Rattle.lr_rules.specs.Path.{joined}
use Rattle.lr_family.specs.declared.spot.Spot.{Spot}
use Rattle.lr_family.specs.Named.{member_name}
use Rattle.lr_family.specs.Parts.{IsMember, by_bytes}
use Rattle.lr_family.specs.Places.{IsPlaceOf}

-- the path of the numbered member at this place
abbrev pub path_at : Naming → ℕ → Path
path_at n place = joined n.dir (member_name n (n.start + place))

-- The path is a member's, and its name is among these.
pub record IsListed (n : Naming) (names : List (List ℕ)) (x : Path) : Type 0 where
  pub member : IsMember n x
  pub name : List ℕ
  pub listed : Contains names name
  pub named : x ≡ joined n.dir name

-- it has the path of its place
abbrev pub HasPath : Naming → Spot → Type 0
HasPath n spot = IsPlaceOf n spot.place spot.path

-- one of them has this path
abbrev pub IsAmong : List Spot → Path → Type 0
IsAmong spots x = (spot : Spot) × Contains spots spot × (spot.path ≡ x)

-- These are the members among the names, whatever their order.
pub record HasSpots (n : Naming) (names : List (List ℕ)) (spots : List Spot) : Type 0 where
  pub places : All (HasPath n) spots
  pub all : (x : Path) → IsAmong spots x ↔ IsListed n names x

-- the order of the bytes of their paths
abbrev pub by_path : Spot → Spot → Ordering
by_path a b = by_bytes a.path b.path

-- These are the members among the names, each once, in order of the bytes of their paths.
pub record AreSpots (n : Naming) (names : List (List ℕ)) (spots : List Spot) : Type 0 where
  pub has : HasSpots n names spots
  pub rising : IsStrictlySortedBy by_path spots

-- the member with this name is added, where it is one
pub record AddsSpot (n : Naming) (name : List ℕ) (before now : List Spot) : Type 0 where
  pub places : All (HasPath n) before → All (HasPath n) now
  pub all : (x : Path) → IsAmong now x ↔ (IsAmong before x ⊎ ((x ≡ joined n.dir name) × IsMember n x))
