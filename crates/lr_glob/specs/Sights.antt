-- What the looks at the paths that a word may give saw.
use Rattle.std.specs.Prelude.{◌≡◌, ℕ, Bool, not, ◌&&◌, List, [], ◌∷◌, ◌++◌, map, flat_map, length, nat_le, nat_lt}
use Rattle.std.specs.Prelude.{Option, Some, None, Result, Ok, Err, if◌then◌else◌}
use Rattle.std.specs.List.{list_any}
use Rattle.std.specs.List.Sorted.{IsPermutation, IsSortedByKey}
use Rattle.std.specs.Ordering.{nat_cmp}
use Rattle.std.specs.Cmp.Lexicographic.{slice_cmp}
use Rattle.lr_rules.specs.declared.path.Path.{Path}
use Rattle.lr_rules.specs.declared.fault.CallKind.TheVariants as call
use Rattle.lr_rules.specs.Match.{part_end}
use Rattle.lr_rules.specs.Names.{ends_with}
use Rattle.lr_rules.specs.Path.{last_of}
use Rattle.lr_host.specs.declared.thing.Seen.{Seen}
use Rattle.lr_host.specs.declared.entry.Entry.{Entry}
use Rattle.lr_host.specs.Listing.{is_file_kind}
use Rattle.lr_host.specs.Looks.{PathSight, look_of}
use Rattle.lr_glob.specs.declared.found.Found.{Found}
use Rattle.lr_glob.specs.declared.found.GlobStop.{GlobStop}
use Rattle.lr_glob.specs.declared.found.GlobStop.TheVariants as stop

-- what was seen at the path, of any kind
abbrev pub seen_at : Path → Option Seen → List Found
seen_at path None = []
seen_at path (Some seen) = record { path = path; seen = seen } ∷ []

-- the regular file that was seen there
abbrev pub file_at : Path → Option Seen → List Found
file_at path None = []
file_at path (Some seen) = if is_file_kind seen.kind then record { path = path; seen = seen } ∷ [] else []

abbrev pub found_file : PathSight → List Found
found_file s = file_at s.path s.seen

-- no copy that isn't whole yet
abbrev pub is_whole : Path → Bool
is_whole path = not (ends_with part_end path)

-- these in order of bytes
pub record InOrder (paths ordered : List Path) : Type 0 where
  pub same : IsPermutation paths ordered
  pub rising : IsSortedByKey (λ path. path) (slice_cmp nat_cmp) ordered

-- One look at each of these paths, in order; the regular files that they saw are these.
pub record LookedAt (paths : List Path) (found : List Found) (ts : List Entry) : Type 0 where
  pub sights : List PathSight
  pub each : map (λ s. s.path) sights ≡ paths
  pub found_are : found ≡ flat_map found_file sights
  pub looks : ts ≡ map look_of sights

-- The look at this path failed, behind looks at those before it.
pub record FailedAt (paths : List Path) (path : Path) (ts : List Entry) : Type 0 where
  pub sights : List PathSight
  pub after : List Path
  pub each : paths ≡ map (λ s. s.path) sights ++ path ∷ after
  pub looks : ts ≡ map look_of sights

-- a first part of them was looked at
pub record LookedAtSome (paths : List Path) (ts : List Entry) : Type 0 where
  pub sights : List PathSight
  pub after : List Path
  pub each : paths ≡ map (λ s. s.path) sights ++ after
  pub looks : ts ≡ map look_of sights

-- The looks were broken off: one failed, or there was no memory.
abbrev pub LooksBroken : List Path → GlobStop → List Entry → Type 0
LooksBroken paths (stop.Call kind path) ts = (kind ≡ call.Look) × FailedAt paths path ts
LooksBroken paths stop.Memory ts = LookedAtSome paths ts
LooksBroken paths _ ts = ⊥

-- ---- limits

-- the path is no log's: it has more than 2,048 bytes, or its last part more than 255
abbrev pub is_long : Found → Bool
is_long f = not (nat_le (length f.path) 2048 && nat_le (length (last_of f.path)) 255)

-- what is found, where no path of it is too long and there is room for so many
abbrev pub judged : ℕ → List Found → Result (List Found) GlobStop
judged room found = if list_any is_long found then Err stop.LongName else if nat_lt room (length found) then Err stop.TooMany else
    Ok found
