-- What the visits of a round have come to, one after another.
use Rattle.std.specs.Prelude.{◌≡◌, ℕ, List, map, flat_map}
use Rattle.lr_rules.specs.declared.path.Path.{Path}
use Rattle.lr_host.specs.declared.entry.Entry.{Entry}
use Rattle.lr_glob.specs.declared.found.GlobStop.{GlobStop}
use Rattle.lr_glob.specs.declared.found.GlobStop.TheVariants as stop
use Rattle.lr_glob.specs.declared.visit.VisitStop.{VisitStop}
use Rattle.lr_glob.specs.Gathers.{Gathers, AddsPaths}
use Rattle.lr_glob.specs.Visits.{WordVisit, visit_entries}
use Rattle.lr_glob.specs.Rounds.{Picks}
use Rattle.lr_glob.specs.Stops.{NotVisited, glob_stop}

-- One directory was visited, and the paths of the names that the part matches were added.
pub record VisitAdds (part : List ℕ) (dir : Path) (before now : List Path) (ts : List Entry) : Type 0 where
  pub visit : WordVisit
  pub at : visit.dir ≡ dir
  pub adds : AddsPaths (Picks part visit) before now
  pub entries : ts ≡ visit_entries visit

-- Each of these was visited, and these are the paths that they gave.
pub record VisitsGive (part : List ℕ) (dirs paths : List Path) (ts : List Entry) : Type 0 where
  pub visits : List WordVisit
  pub each : map (λ v. v.dir) visits ≡ dirs
  pub gave : Gathers (Picks part) visits paths
  pub entries : ts ≡ flat_map visit_entries visits

-- The visit ended before its names were there; or it didn't, and there was no memory for what they gave.
pub data VisitBroken (dir : Path) (why : GlobStop) (ts : List Entry) : Type 0 where
  early : (cause : VisitStop) → why ≡ glob_stop cause dir → NotVisited dir cause ts → VisitBroken dir why ts
  late : (visit : WordVisit) → visit.dir ≡ dir → why ≡ stop.Memory → ts ≡ visit_entries visit → VisitBroken dir why ts
