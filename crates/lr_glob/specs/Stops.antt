-- Why a word was not followed to its end.
use Rattle.std.specs.Prelude.{◌≡◌, ◌⊎◌, List, [], ◌∷◌, ◌++◌, ℕ, true, map, flat_map}
use Rattle.lr_rules.specs.declared.path.Path.{Path}
use Rattle.lr_rules.specs.declared.fault.CallKind.TheVariants as call
use Rattle.lr_rules.specs.Match.{is_wildcard}
use Rattle.lr_host.specs.declared.entry.Entry.{Entry}
use Rattle.lr_host.specs.Told.{Then, Are}
use Rattle.lr_host.specs.Looks.{Sees, IsDir}
use Rattle.lr_glob.specs.declared.found.GlobStop.{GlobStop}
use Rattle.lr_glob.specs.declared.found.GlobStop.TheVariants as stop
use Rattle.lr_glob.specs.declared.visit.VisitStop.{VisitStop}
use Rattle.lr_glob.specs.declared.visit.VisitStop.TheVariants as visit
use Rattle.lr_glob.specs.Visits.{WordVisit, visit_entries}
use Rattle.lr_glob.specs.Rounds.{Led}

-- A visit that ended before its names were there: the look failed; the listing did behind it, which saw a directory; or there was
-- no memory for the names.
abbrev pub NotVisited : Path → VisitStop → List Entry → Type 0
NotVisited dir visit.Look ts = ts ≡ []
NotVisited dir visit.List ts = Sees dir IsDir ts
NotVisited dir visit.Memory ts = Sees dir IsDir ts

-- what the caller is told of it
abbrev pub glob_stop : VisitStop → Path → GlobStop
glob_stop visit.Look dir = stop.Call call.Look dir
glob_stop visit.List dir = stop.Call call.List dir
glob_stop visit.Memory dir = stop.Memory

abbrev pub IsFailedGlob : GlobStop → Type 0
IsFailedGlob (stop.Call kind path) = Unit {0}
IsFailedGlob _ = ⊥

-- The first of these directories were visited, and the visit of the next ended so.
pub record BrokenAt (dirs : List Path) (why : GlobStop) (ts : List Entry) : Type 0 where
  pub visits : List WordVisit
  pub dir : Path
  pub after : List Path
  pub each : dirs ≡ map (λ v. v.dir) visits ++ dir ∷ after
  pub cause : VisitStop
  pub told : why ≡ glob_stop cause dir
  pub entries : Then (Are (flat_map visit_entries visits)) (NotVisited dir cause) ts

-- The first of these directories were visited, and there was no memory for what they gave.
pub record BrokenBehind (dirs : List Path) (why : GlobStop) (ts : List Entry) : Type 0 where
  pub visits : List WordVisit
  pub after : List Path
  pub each : dirs ≡ map (λ v. v.dir) visits ++ after
  pub told : why ≡ stop.Memory
  pub entries : ts ≡ flat_map visit_entries visits

abbrev pub RoundBroken : List Path → GlobStop → List Entry → Type 0
RoundBroken dirs why ts = BrokenAt dirs why ts ⊎ BrokenBehind dirs why ts

-- A part was not followed to its end: a wildcard's visits were broken off, or nothing was asked for and there was no memory.
pub record NotFollowed (part : List ℕ) (dirs : List Path) (why : GlobStop) (ts : List Entry) : Type 0 where
  pub asked : (is_wildcard part ≡ true × RoundBroken dirs why ts) ⊎ ((why ≡ stop.Memory) × (ts ≡ []))

-- The parts before this one were followed, and this one was not to its end.
pub record NotLed (parts : List (List ℕ)) (dirs : List Path) (why : GlobStop) (ts : List Entry) : Type 0 where
  pub before : List (List ℕ)
  pub part : List ℕ
  pub after : List (List ℕ)
  pub between : List Path
  pub each : parts ≡ before ++ part ∷ after
  pub entries : Then (Led before dirs between) (NotFollowed part between why) ts
