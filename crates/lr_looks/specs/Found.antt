-- Logs that were found.
use Rattle.std.specs.Prelude.{◌≡◌, ◌≤◌, true, List, [], ◌∷◌, length, map, None}
use Rattle.lr_rules.specs.declared.path.Path.{Path}
use Rattle.lr_rules.specs.Limits.{is_format, or_none}
use Rattle.lr_rules.specs.Path.{path_fault, last_of}
use Rattle.lr_host.specs.declared.thing.Seen.{Seen}
use Rattle.lr_looks.specs.declared.found.Found.{Found}
use Rattle.lr_looks.specs.Asked.{Log}

-- A log at whose path something stands: of a literal word in any kind, of a wildcard a regular file.
pub record FoundLog : Type 0 where
  pub log : Log
  pub seen : Seen

-- as the code has it
abbrev pub log_in : Found → Log
log_in f = record { set = f.set; path = f.family.log; naming = f.family.naming; ignore = f.ignore_duplicates; wild = f.wild }

abbrev pub found_in : Found → FoundLog
found_in f = record { log = log_in f; seen = f.seen }

abbrev pub all_found_in : List Found → List FoundLog
all_found_in list = map found_in list

-- their paths
abbrev pub paths_of : List FoundLog → List Path
paths_of found = map (λ f. f.log.path) found

-- The first number of its members is at most 999,999, and their format of dates, where they have one, meets its limits.
pub record HasBounds (f : FoundLog) : Type 0 where
  pub start : f.log.naming.start ≤ 999999
  pub format : or_none is_format f.log.naming.dated ≡ true

-- Its path is one, of 2,048 bytes at most, with a last part of 255 at most; so is the directory of its members, and their format of
-- dates, where they have one, meets its limits.
pub record HasLogPath (f : FoundLog) : Type 0 where
  pub path : path_fault f.log.path ≡ None
  pub dir : path_fault f.log.naming.dir ≡ None
  pub size : length f.log.path ≤ 2048
  pub last : length (last_of f.log.path) ≤ 255
  pub format : or_none is_format f.log.naming.dated ≡ true

-- P holds of each of these logs
abbrev pub Hold : (FoundLog → Type 0) → List FoundLog → Type 0
Hold P [] = Unit {0}
Hold P (f ∷ fs) = P f × Hold P fs

abbrev pub HaveBounds : List FoundLog → Type 0
HaveBounds found = Hold HasBounds found

abbrev pub HaveLogPaths : List FoundLog → Type 0
HaveLogPaths found = Hold HasLogPath found
