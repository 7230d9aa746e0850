-- What a run does to its logs: the entries of each rotation, of the others, and of the state.
use Rattle.std.specs.Prelude.{◌≡◌, ◌≢◌, ◌⊎◌, ℕ, true, List, [], ◌∷◌, ◌++◌, cond, bytes_eq, Option, Some, None}
use Rattle.std.specs.List.{flat_map}
use Rattle.lr_rules.specs.declared.path.Path.{Path}
use Rattle.lr_rules.specs.StatePath.{state_part}
use Rattle.lr_host.specs.declared.entry.Entry.{Entry}
use Rattle.lr_host.specs.declared.entry.Entry.TheVariants as entry
use Rattle.lr_host.specs.Lists.{IsIn}
use Rattle.lr_laws.specs.Follow.{changed_paths}
use Rattle.lr_copy.specs.declared.job.Job.{Job}
use Rattle.lr_laws_rotations.specs.Target.{Target, target_entries}

-- the path is the state's, or that of its part file
abbrev pub IsStatePath : Path → Path → Type 0
IsStatePath state x = (x ≡ state) ⊎ (x ≡ state_part state)

-- the entry changes such paths alone
abbrev pub IsOfState : Path → Entry → Type 0
IsOfState state (entry.Renames from to) = IsStatePath state from × IsStatePath state to
IsOfState state (entry.Makes x mode) = IsStatePath state x
IsOfState state (entry.Appends x bytes) = IsStatePath state x
IsOfState state (entry.Unlinks x) = IsStatePath state x
IsOfState state _ = ⊥

-- the log is emptied behind its copy
abbrev pub IsEmptied : Target → Type 0
IsEmptied t = (job : Job) × (t.job ≡ Some job) × (job.cut ≡ true)

-- the path is that of the part file of its copy
abbrev pub IsPartFile : Target → Path → Type 0
IsPartFile t x = (job : Job) × (t.job ≡ Some job) × (x ≡ job.part)

-- the path is that of the directory that its rotation makes
abbrev pub IsItsDir : Target → Path → Type 0
IsItsDir t x = (mode : Option ℕ) × (t.ready.dir ≡ Some (x, mode))

-- What a rotation does besides its renames and unlinks: the family's directory is made where it wasn't there; the log is made anew;
-- where it is copied, its part file is made and filled, and the log is emptied where the copy asks for that.
abbrev pub AlsoDoes : Target → Entry → Type 0
AlsoDoes t (entry.MakesDir x mode) = IsItsDir t x
AlsoDoes t (entry.Makes x mode) = (x ≡ t.log) ⊎ IsPartFile t x
AlsoDoes t (entry.Appends x bytes) = IsPartFile t x
AlsoDoes t (entry.Truncates x) = IsEmptied t × (x ≡ t.log)
AlsoDoes t _ = ⊥

-- the entry is of the rotation of this log
abbrev pub IsOf : Target → Entry → Type 0
IsOf t e = IsIn e (target_entries t) ⊎ AlsoDoes t e

-- of one of these logs
abbrev pub IsOfSome : List Target → Entry → Type 0
IsOfSome [] e = ⊥
IsOfSome (t ∷ ts) e = IsOf t e ⊎ IsOfSome ts e

-- of one that is another than this
abbrev pub IsOfOther : Path → List Target → Entry → Type 0
IsOfOther log [] e = ⊥
IsOfOther log (t ∷ ts) e = ((t.log ≢ log) × IsOf t e) ⊎ IsOfOther log ts e

-- of another log, or of the state, or what this log's rotation does besides: what may stand between its renames and unlinks
abbrev pub StandsBetween : Path → Target → List Target → Entry → Type 0
StandsBetween state t targets e = IsOfOther t.log targets e ⊎ (IsOfState state e ⊎ AlsoDoes t e)

-- the path of the part file, where the log is copied
abbrev pub job_part_paths : Option Job → List Path
job_part_paths None = []
job_part_paths (Some job) = job.part ∷ []

-- the path of the directory that is made, if any
abbrev pub dir_paths : Option (Path × Option ℕ) → List Path
dir_paths None = []
dir_paths (Some (dir, mode)) = dir ∷ []

-- all paths that a rotation changes
abbrev pub target_paths : Target → List Path
target_paths t = t.log ∷ (job_part_paths t.job ++ (dir_paths t.ready.dir ++ flat_map changed_paths (target_entries t)))

-- the paths that the rotations of other logs change, and those of the state
abbrev pub paths_of_others : Path → List Target → List Path
paths_of_others log [] = []
paths_of_others log (t ∷ ts) = cond (bytes_eq t.log log) (paths_of_others log ts) (target_paths t ++ paths_of_others log ts)

abbrev pub other_paths : Path → Path → List Target → List Path
other_paths state log targets = state ∷ state_part state ∷ paths_of_others log targets

-- the paths that a run changes besides the names of this log's family: those of others, and of the directory that its rotation
-- makes
abbrev pub paths_beside : Path → Target → List Target → List Path
paths_beside state t targets = dir_paths t.ready.dir ++ other_paths state t.log targets
