-- The part files of members: copies that aren't whole yet, which stay where a rotation was broken off.
use Rattle.std.specs.Prelude.{◌≡◌, ◌⊎◌, ◌↔◌, ℕ, ℤ, Bool, true, false, List, [], ◌∷◌, ◌++◌, map, flat_map, All, Contains, Option}
use Rattle.std.specs.Prelude.{Some, None}
use Rattle.std.specs.declared.cmp.Ordering.{Ordering}
use Rattle.std.specs.Ordering.{nat_cmp}
use Rattle.std.specs.Cmp.Lexicographic.{slice_cmp}
use Rattle.std.specs.List.Sorted.{IsStrictlySortedBy}
use Rattle.lr_rules.specs.declared.path.Path.{Path}
use Rattle.lr_rules.specs.declared.rule.Naming.{Naming}
use Rattle.lr_rules.specs.declared.fault.CallKind.TheVariants as call
use Rattle.lr_rules.specs.Dated.{IsDatedAt}
use Rattle.lr_rules.specs.Match.{part_end}
use Rattle.lr_rules.specs.Names.{IsMemberAt}
use Rattle.lr_rules.specs.Path.{joined}
use Rattle.lr_host.specs.declared.thing.Kind.{Kind}
use Rattle.lr_host.specs.declared.thing.Kind.TheVariants as kind
use Rattle.lr_host.specs.declared.thing.Seen.{Seen}
use Rattle.lr_host.specs.declared.entry.Entry.{Entry}
use Rattle.lr_host.specs.Looks.{PathSight, look_of}
use Rattle.lr_family.specs.declared.stand.StandStop.{StandStop}
use Rattle.lr_family.specs.declared.stand.StandStop.TheVariants as stop

-- the part file of a path: the path with the ending of a copy that isn't whole
abbrev pub part_of : Path → Path
part_of x = x ++ part_end

-- ---- members, numbered and dated ones alike

-- the path is that of a numbered member
abbrev pub IsNumbered : Naming → Path → Type 0
IsNumbered n x = (n.dated ≡ None) × ((place : ℕ) × IsMemberAt n place x)

-- the path is that of a dated member
abbrev pub IsDated : Naming → Path → Type 0
IsDated n x = (seconds : ℤ) × (serial : ℕ) × IsDatedAt n seconds serial x

-- the path is a member's
abbrev pub IsMember : Naming → Path → Type 0
IsMember n x = IsNumbered n x ⊎ IsDated n x

-- the path is that of a member's part file
abbrev pub IsMembersPart : Naming → Path → Type 0
IsMembersPart n x = (member : Path) × IsMember n member × (x ≡ part_of member)

-- ---- those that a listing names

-- The path is that of a member's part file, and its name is among these.
pub record IsPartAmong (n : Naming) (names : List (List ℕ)) (x : Path) : Type 0 where
  pub part : IsMembersPart n x
  pub name : List ℕ
  pub listed : Contains names name
  pub named : x ≡ joined n.dir name

-- the order of the bytes of paths
abbrev pub by_bytes : Path → Path → Ordering
by_bytes a b = slice_cmp nat_cmp a b

-- These are the part files among the names, each once, in order of bytes.
pub record AreParts (n : Naming) (names : List (List ℕ)) (paths : List Path) : Type 0 where
  pub all : (x : Path) → Contains paths x ↔ IsPartAmong n names x
  pub rising : IsStrictlySortedBy by_bytes paths

-- Some of the part files among the names, each once.
pub record SomeParts (n : Naming) (names : List (List ℕ)) : Type 0 where
  pub paths : List Path
  pub once : IsStrictlySortedBy by_bytes paths
  pub listed : All (IsPartAmong n names) paths

-- ---- the looks at them

abbrev pub part_if_file : Path → Kind → List Path
part_if_file path kind.File = path ∷ []
part_if_file path _ = []

-- the part file, where a regular file was seen; whatever else has its path is none
abbrev pub part_seen : Path → Option Seen → List Path
part_seen path None = []
part_seen path (Some seen) = part_if_file path seen.kind

abbrev pub part_in : PathSight → List Path
part_in sight = part_seen sight.path sight.seen

-- Each part file among the names was looked at, in order of bytes; at these a regular file was seen.
pub record PartsAmong (n : Naming) (names : List (List ℕ)) (parts : List Path) (ts : List Entry) : Type 0 where
  pub sights : List PathSight
  pub all : AreParts n names (map (λ sight. sight.path) sights)
  pub parts_are : parts ≡ flat_map part_in sights
  pub looks : ts ≡ map look_of sights

-- in a directory that isn't there none stands, and none is looked at
abbrev pub ShowsParts : Naming → Bool → List (List ℕ) → List Path → List Entry → Type 0
ShowsParts n true names parts ts = PartsAmong n names parts ts
ShowsParts n false names parts ts = (parts ≡ []) × (ts ≡ [])

-- the look at the first of these failed, or there was no memory
abbrev pub StopsBefore : List Path → StandStop → Type 0
StopsBefore [] why = why ≡ stop.Memory
StopsBefore (path ∷ paths) why = (why ≡ stop.Call call.Look path) ⊎ (why ≡ stop.Memory)

-- The first part files among the names were looked at; then the next look failed, or there was no memory.
pub record PartsStopped (n : Naming) (names : List (List ℕ)) (why : StandStop) (ts : List Entry) : Type 0 where
  pub sights : List PathSight
  pub after : List Path
  pub all : AreParts n names (map (λ sight. sight.path) sights ++ after)
  pub looks : ts ≡ map look_of sights
  pub stopped : StopsBefore after why

-- Why it isn't known which of them stand. There may be no memory before the first look.
abbrev pub ShowsNoParts : Naming → List (List ℕ) → StandStop → List Entry → Type 0
ShowsNoParts n names why ts = ((why ≡ stop.Memory) × (ts ≡ [])) ⊎ PartsStopped n names why ts
