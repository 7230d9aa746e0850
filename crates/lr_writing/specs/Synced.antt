-- Which directories a run syncs before its state gets its new text.
use Rattle.std.specs.Prelude.{◌≡◌, ℕ, Bool, not, ◌&&◌, List, [], ◌∷◌, ◌++◌, filter, Option, Some, None}
use Rattle.std.specs.List.{flat_map, list_any}
use Rattle.std.specs.Str.{bytes_eq}
use Rattle.lr_rules.specs.declared.path.Path.{Path}
use Rattle.lr_plan.specs.declared.mark.Mark.{Mark}
use Rattle.lr_plan.specs.declared.mark.Mark.TheVariants.{Rotated, Directory, Created}
use Rattle.lr_plan.specs.declared.plan.LogPlan.{LogPlan}
use Rattle.lr_plan.specs.declared.plan.SetPlan.{SetPlan}
use Rattle.lr_writing.specs.Directories.{AreDirectoriesOf}

-- ---- the paths of a plan

-- Each log that it rotates, and the path that it gets. Where a log waits that is set aside stands in the log's directory.
abbrev pub changed_of : List LogPlan → List Path
changed_of logs = flat_map (λ log. log.log ∷ log.ready.target ∷ []) logs

abbrev pub all_changed_of : List SetPlan → List Path
all_changed_of sets = flat_map (λ set. changed_of set.logs) sets

-- the directory that a rotation is to make, if any
abbrev pub made_of : Option (Path × Option ℕ) → List Path
made_of None = []
made_of (Some dir) = dir.0 ∷ []

-- the directories that the rotations are to make
abbrev pub to_make_of : List LogPlan → List Path
to_make_of logs = flat_map (λ log. made_of log.ready.dir) logs

abbrev pub all_to_make_of : List SetPlan → List Path
all_to_make_of sets = flat_map (λ set. to_make_of set.logs) sets

-- ---- what was made

-- the directory of which a mark tells, if any
abbrev pub made_by : Mark → List Path
made_by (Rotated path) = []
made_by (Directory path) = path ∷ []
made_by (Created path) = []

-- the directories of which marks tell
abbrev pub made_in : List Mark → List Path
made_in marks = flat_map made_by marks

-- the directory was to be made, and wasn't
abbrev pub is_unmade : (to_make made : List Path) → Path → Bool
is_unmade to_make made dir = list_any (bytes_eq dir) to_make && not (list_any (bytes_eq dir) made)

-- ---- what is synced

-- These directories are synced behind acts that left these marks: those of all paths that the plan changes or makes, each once, in
-- order of bytes, without those that were to be made and weren't.
pub record AreSynced (sets : List SetPlan) (marks : List Mark) (dirs : List Path) : Type 0 where
  pub all : List Path
  pub are : AreDirectoriesOf (all_changed_of sets ++ all_to_make_of sets) all
  pub dirs_are : dirs ≡ filter (λ dir. not (is_unmade (all_to_make_of sets) (made_in marks) dir)) all
