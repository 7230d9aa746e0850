-- What is kept of a plan's directories before the acts.
use Rattle.std.specs.Prelude.{◌≡◌, List, ◌++◌}
use Rattle.std.specs.BTreeSet.{contains_text}
use Rattle.std.specs.List.{list_any}
use Rattle.std.specs.Str.{bytes_eq}
use Rattle.lr_rules.specs.declared.path.Path.{Path}
use Rattle.lr_plan.specs.declared.plan.SetPlan.{SetPlan}
use Rattle.lr_writing.specs.Directories.{AreDirectoriesOf}
use Rattle.lr_writing.specs.declared.synced_directories.Directories.{Directories}
use Rattle.lr_writing.specs.Synced.{all_changed_of, all_to_make_of}

-- These are the directories by the plans: those of all paths that they change or make, and the set of those that are to be made.
pub record IsBy (sets : List SetPlan) (directories : Directories) : Type 0 where
  pub all : AreDirectoriesOf (all_changed_of sets ++ all_to_make_of sets) directories.all
  pub to_make : (path : Path) → contains_text directories.to_make path ≡ list_any (bytes_eq path) (all_to_make_of sets)
