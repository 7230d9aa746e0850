-- What a reading leaves that ends for want of memory.
use Rattle.std.specs.Prelude.{◌≡◌, List, [], ◌∷◌, Option}
use Rattle.lr_rules.specs.declared.path.Path.{Path}
use Rattle.lr_host.specs.declared.entry.Entry.{Entry}
use Rattle.lr_host.specs.Told.{Then}
use Rattle.lr_include.specs.declared.visit.Visit.{Visit}
use Rattle.lr_include.specs.Visits.{PartVisit}
use Rattle.lr_include.specs.declared.task.Task.{Task}
use Rattle.lr_include.specs.declared.task.Task.TheVariants as task
use Rattle.lr_include.specs.Stages.{Stage, room_for, IsTaboo, at_visits, ShowsVisits, begun}

-- a first part of what the next visit of a stage leaves; nothing of a name that is barred, and where nothing is asked for
abbrev pub PartNext : Stage → List Task → List Entry → Type 0
PartNext s (task.Ask a ∷ todo) ts = PartVisit a.path (room_for s) ts
PartNext s (task.Name a ∷ todo) ts = (IsTaboo s.lines a.path → ts ≡ []) × PartVisit a.path (room_for s) ts
PartNext s todo ts = ts ≡ []

-- The entries show some visits from this stage on, each asked for by what was read before it, and then a first part of the
-- next.
pub record LacksFrom (s : Stage) (ts : List Entry) : Type 0 where
  pub visits : List (Option Visit)
  pub shown : Then (ShowsVisits s visits) (PartNext (at_visits s visits) (at_visits s visits).todo) ts

-- So much of the reading of these paths was made.
abbrev pub LacksReading : List Path → List Entry → Type 0
LacksReading paths = LacksFrom (begun paths)
