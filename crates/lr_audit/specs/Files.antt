-- The regular files in directories, as these were listed, and each of their names looked at.
use Rattle.std.specs.Prelude.{◌≡◌, ℕ, Bool, List, [], ◌∷◌, ◌++◌, map, filter, All, Option, Some, None, is_none, if◌then◌else◌}
use Rattle.std.specs.List.{flat_map}
use Rattle.lr_rules.specs.declared.path.Path.{Path}
use Rattle.lr_rules.specs.declared.fault.CallKind.{CallKind}
use Rattle.lr_rules.specs.declared.fault.CallKind.TheVariants as call
use Rattle.lr_rules.specs.declared.fault.Fault.{Fault}
use Rattle.lr_rules.specs.declared.fault.Fault.TheVariants as fault
use Rattle.lr_rules.specs.Path.{joined, path_fault}
use Rattle.lr_host.specs.declared.thing.Seen.{Seen}
use Rattle.lr_host.specs.declared.entry.Entry.{Entry}
use Rattle.lr_host.specs.declared.entry.Entry.TheVariants as entry
use Rattle.lr_host.specs.Listing.{is_file_kind}
use Rattle.lr_host.specs.Told.{Then}
use Rattle.lr_family.specs.declared.stand.StandStop.{StandStop}
use Rattle.lr_family.specs.declared.stand.StandStop.TheVariants as stop
use Rattle.lr_family.specs.Listed.{ShowsListing, NotListed, ShowsNoDir}

-- the bytes are a path
abbrev pub are_path_bytes : List ℕ → Bool
are_path_bytes bytes = is_none (path_fault bytes)

-- the paths of these names in the directory; what would be none is left out, since nothing has it on a disk
abbrev pub paths_of_names : Path → List (List ℕ) → List Path
paths_of_names dir names = filter are_path_bytes (map (joined dir) names)

-- ---- the looks at paths

-- A path, and what the look at it showed; None where the look failed.
pub record FileSight : Type 0 where
  pub path : Path
  pub seen : Option (Option Seen)

-- the regular file that was seen there
abbrev pub file_path : Path → Option Seen → List Path
file_path path None = []
file_path path (Some seen) = if is_file_kind seen.kind then path ∷ [] else []

abbrev pub file_by : Path → Option (Option Seen) → List Path
file_by path None = []
file_by path (Some look) = file_path path look

abbrev pub fault_by : Path → Option (Option Seen) → List Fault
fault_by path None = fault.Call call.Look path ∷ []
fault_by path (Some look) = []

abbrev pub look_by : Path → Option (Option Seen) → List Entry
look_by path None = []
look_by path (Some look) = entry.Look path look ∷ []

abbrev pub sight_file : FileSight → List Path
sight_file s = file_by s.path s.seen

abbrev pub sight_fault : FileSight → List Fault
sight_fault s = fault_by s.path s.seen

abbrev pub file_looks : FileSight → List Entry
file_looks s = look_by s.path s.seen

-- One look at each of these paths, in order: the regular files that were seen, and a fault for each look that failed.
pub record LookedAtEach (paths files : List Path) (faults : List Fault) (ts : List Entry) : Type 0 where
  pub sights : List FileSight
  pub each : map (λ s. s.path) sights ≡ paths
  pub files_are : files ≡ flat_map sight_file sights
  pub faults_are : faults ≡ flat_map sight_fault sights
  pub looks : ts ≡ flat_map file_looks sights

-- ---- a directory

-- It was listed, and each name in it looked at; or a call failed, and it has a fault of its own; or it is no directory.
pub data ShowsFilesIn (dir : Path) (files : List Path) (faults : List Fault) (ts : List Entry) : Type 0 where
  listed : (there parent : Bool) (names : List (List ℕ))
      → Then (ShowsListing dir there parent names) (LookedAtEach (paths_of_names dir names) files faults) ts
      → ShowsFilesIn dir files faults ts
  not_listed : (kind : CallKind) (path : Path) → files ≡ [] → faults ≡ fault.Call kind path ∷ []
      → NotListed dir (stop.Call kind path) ts → ShowsFilesIn dir files faults ts
  no_directory : (path : Path) → files ≡ [] → faults ≡ [] → ShowsNoDir dir path ts → ShowsFilesIn dir files faults ts

-- the fault of one that couldn't be listed
abbrev pub list_fault : StandStop → List Fault
list_fault (stop.Call kind path) = fault.Call kind path ∷ []
list_fault (stop.NotFile path) = []
list_fault stop.Memory = []

-- ---- all of them

-- A directory, the files in it, the faults of its calls, and the entries that they left.
pub record DirSight : Type 0 where
  pub dir : Path
  pub files : List Path
  pub faults : List Fault
  pub entries : List Entry

abbrev pub IsShown : DirSight → Type 0
IsShown s = ShowsFilesIn s.dir s.files s.faults s.entries

-- So was each of these, one behind another.
pub record ShowsDirs (dirs files : List Path) (faults : List Fault) (ts : List Entry) : Type 0 where
  pub sights : List DirSight
  pub each : map (λ s. s.dir) sights ≡ dirs
  pub shown : All IsShown sights
  pub files_are : files ≡ flat_map (λ s. s.files) sights
  pub faults_are : faults ≡ flat_map (λ s. s.faults) sights
  pub entries_are : ts ≡ flat_map (λ s. s.entries) sights

-- ---- for calls

-- Such files and faults were added.
pub record AddsFiles (P : List Path → List Fault → List Entry
    → Type 0) (files all_files : List Path) (faults all_faults : List Fault) (ts : List Entry) : Type 0 where
  pub own : List Path
  pub said : List Fault
  pub files_are : all_files ≡ files ++ own
  pub faults_are : all_faults ≡ faults ++ said
  pub shown : P own said ts
