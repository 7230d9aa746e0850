-- What the steps that find part files leave.
use Rattle.std.specs.Prelude.{◌≡◌, ◌⊎◌, ◌↔◌, ℕ, List, [], ◌∷◌, ◌++◌, map, flat_map, Contains}
use Rattle.std.specs.List.Sorted.{IsSorted}
use Rattle.lr_rules.specs.declared.path.Path.{Path}
use Rattle.lr_rules.specs.declared.rule.Naming.{Naming}
use Rattle.lr_rules.specs.Path.{joined}
use Rattle.lr_host.specs.declared.entry.Entry.{Entry}
use Rattle.lr_host.specs.Looks.{PathSight, look_of}
use Rattle.lr_family.specs.declared.stand.StandStop.{StandStop}
use Rattle.lr_family.specs.Parts.{IsMembersPart, IsPartAmong, part_in, StopsBefore, by_bytes}

-- the path of the name is added, where it is that of a member's part file
abbrev pub AddsPart : Naming → List ℕ → List Path → List Path → Type 0
AddsPart n name before now = (IsMembersPart n (joined n.dir name) × (now ≡ before ++ joined n.dir name ∷ []))
    ⊎ ((IsMembersPart n (joined n.dir name) → ⊥) × (now ≡ before))

-- These are the part files among the names, in order of bytes.
pub record HasParts (n : Naming) (names : List (List ℕ)) (paths : List Path) : Type 0 where
  pub all : (x : Path) → Contains paths x ↔ IsPartAmong n names x
  pub rising : IsSorted by_bytes paths

-- Each of these paths was looked at, in order; at these a regular file was seen.
pub record SeesParts (paths parts : List Path) (ts : List Entry) : Type 0 where
  pub sights : List PathSight
  pub each : map (λ sight. sight.path) sights ≡ paths
  pub parts_are : parts ≡ flat_map part_in sights
  pub looks : ts ≡ map look_of sights

-- The first of these paths were looked at; then the next look failed, or there was no memory.
pub record SeesSomeParts (paths : List Path) (why : StandStop) (ts : List Entry) : Type 0 where
  pub sights : List PathSight
  pub after : List Path
  pub each : paths ≡ map (λ sight. sight.path) sights ++ after
  pub looks : ts ≡ map look_of sights
  pub stopped : StopsBefore after why
