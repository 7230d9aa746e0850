-- What the looks at the members among the names of a listing, and behind them at their part files, show.
use Rattle.std.specs.Prelude.{◌≡◌, ◌≤◌, ◌+◌, ◌⊎◌, ◌↔◌, ℕ, Bool, true, false, List, [], flat_map, length, All, Result, Err}
use Rattle.std.specs.List.Sorted.{IsPermutation, IsStrictlySortedBy}
use Rattle.lr_rules.specs.declared.path.Path.{Path}
use Rattle.lr_rules.specs.declared.rule.Naming.{Naming}
use Rattle.lr_host.specs.declared.entry.Entry.{Entry}
use Rattle.lr_host.specs.declared.entry.Entry.TheVariants as entry
use Rattle.lr_host.specs.Told.{Then}
use Rattle.lr_family.specs.declared.spot.Spot.{Spot}
use Rattle.lr_family.specs.declared.stand.Member.{Member}
use Rattle.lr_family.specs.declared.stand.Stand.{Stand}
use Rattle.lr_family.specs.declared.stand.StandStop.{StandStop}
use Rattle.lr_family.specs.declared.stand.StandStop.TheVariants as stop
use Rattle.lr_family.specs.Looks.{ShowsSpots}
use Rattle.lr_family.specs.Parts.{SomeParts, ShowsParts, ShowsNoParts, by_bytes}
use Rattle.lr_family.specs.Spots.{IsListed, AreSpots}
use Rattle.lr_family.specs.Stands.{AreNewestFirst}
use Rattle.lr_family.specs.Stops.{SomeStopped}

-- Each member among the names was looked at, in order of bytes; these were seen.
pub record StandsAmong (n : Naming) (names : List (List ℕ)) (members : List Member) (ts : List Entry) : Type 0 where
  pub spots : List Spot
  pub spots_are : AreSpots n names spots
  pub shown : List Member
  pub each : IsPermutation shown members
  pub newest_first : AreNewestFirst members
  pub looks : ShowsSpots spots shown ts

-- One of the members among the names stopped the looks, or there was no memory.
pub record StopsAmong (n : Naming) (names : List (List ℕ)) (why : StandStop) (ts : List Entry) : Type 0 where
  pub spots : List Spot
  pub spots_are : AreSpots n names spots
  pub looks : SomeStopped spots why ts

-- In a directory that isn't there no member stands, and none is looked at.
abbrev pub ShowsMembers : Naming → Bool → List (List ℕ) → List Member → List Entry → Type 0
ShowsMembers n true names members ts = StandsAmong n names members ts
ShowsMembers n false names members ts = (members ≡ []) × (ts ≡ [])

-- What stands of the family, in a directory that was listed so: the looks at members, and then those at part files.
abbrev pub ShowsIn : Naming → Bool → Bool → List (List ℕ) → Stand → List Entry → Type 0
ShowsIn n there parent names stand ts = (stand.there ≡ there) × (stand.parent ≡ parent)
    × Then (ShowsMembers n there names stand.members) (ShowsParts n there names stand.parts) ts

-- The members are known, but not which of their part files stand.
abbrev pub StopsBehind : Naming → List (List ℕ) → StandStop → List Entry → Type 0
StopsBehind n names why ts = (members : List Member) × Then (StandsAmong n names members) (ShowsNoParts n names why) ts

-- Why that isn't known. There may be no memory before the first look.
abbrev pub ShowsNoneIn : Naming → Bool → List (List ℕ) → StandStop → List Entry → Type 0
ShowsNoneIn n true names why ts = ((why ≡ stop.Memory) × (ts ≡ [])) ⊎ (StopsAmong n names why ts ⊎ StopsBehind n names why ts)
ShowsNoneIn n false names why ts = ⊥

-- it is NotFile of a path exactly where the looks at members show it; those at part files never do
abbrev pub IsExactlyAmong : Naming → List (List ℕ) → Result Stand StandStop → List Entry → Type 0
IsExactlyAmong n names result ts = (path : Path) → (result ≡ Err (stop.NotFile path)) ↔ StopsAmong n names (stop.NotFile path) ts

-- ---- how many entries

-- At most one entry for each member and each part file among the names: the paths of the members are different, and so are those of
-- the part files.
pub record AreFewAmong (n : Naming) (names : List (List ℕ)) (ts : List Entry) : Type 0 where
  pub paths : List Path
  pub once : IsStrictlySortedBy by_bytes paths
  pub listed : All (IsListed n names) paths
  pub parts : SomeParts n names
  pub few : length ts ≤ length paths + length parts.paths

-- the names that listings told
abbrev pub names_in : Entry → List (List ℕ)
names_in (entry.List dir names) = names
names_in _ = []

abbrev pub names_told : List Entry → List (List ℕ)
names_told ts = flat_map names_in ts

-- At most four entries more than there are members and part files among the names that were listed.
pub record AreFew (n : Naming) (ts : List Entry) : Type 0 where
  pub paths : List Path
  pub once : IsStrictlySortedBy by_bytes paths
  pub listed : All (IsListed n (names_told ts)) paths
  pub parts : SomeParts n (names_told ts)
  pub few : length ts ≤ length paths + length parts.paths + 4
