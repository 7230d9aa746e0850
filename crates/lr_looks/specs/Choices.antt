-- Which of the logs that were found are kept, and the faults of the others.
use Rattle.std.specs.Prelude.{◌≡◌, Bool, List, [], ◌∷◌, ◌++◌, map, Option, Some, None, slice_get, if◌then◌else◌}
use Rattle.std.specs.List.{flat_map}
use Rattle.std.specs.Borrow.{Bor}
use Rattle.lr_rules.specs.declared.path.Path.{Path}
use Rattle.lr_rules.specs.declared.rule.Naming.{Naming}
use Rattle.lr_rules.specs.declared.fault.Fault.{Fault}
use Rattle.lr_rules.specs.declared.fault.Fault.TheVariants as fault
use Rattle.lr_host.specs.Listing.{is_file_kind}
use Rattle.lr_family.specs.declared.family.Family.{Family}
use Rattle.lr_kept.specs.declared.choice.Choice.{Choice}
use Rattle.lr_kept.specs.declared.choice.Choice.TheVariants.{Kept, Again, MemberOf, Reserved, Meets}
use Rattle.lr_kept.specs.Chosen.{AreChosen}
use Rattle.lr_looks.specs.Found.{FoundLog}

-- the path and the names of a log, by which it is chosen
abbrev pub chosen_names : Bor Family → Path × Naming
chosen_names b = (b.now.log, b.now.naming)

abbrev pub found_names : FoundLog → Path × Naming
found_names f = (f.log.path, f.log.naming)

-- a wildcard gave its path
abbrev pub is_wild : FoundLog → Bool
is_wild f = f.log.wild

-- The choices are those among these logs, where these paths are reserved.
pub record IsChoiceAmong (reserved : List Path) (found : List FoundLog) (choices : List Choice) : Type 0 where
  pub logs : List (Bor Family)
  pub same : map chosen_names logs ≡ map found_names found
  pub chosen : AreChosen logs (map is_wild found) reserved choices

-- a path that was found before is told, unless the definition that found it first lets it go silently
abbrev pub duplicate : FoundLog → Option FoundLog → List Fault
duplicate f None = []
duplicate f (Some first) = if first.log.ignore then [] else fault.Duplicate f.log.path ∷ []

-- the names of the log meet those of one that was kept before
abbrev pub overlap : FoundLog → Option FoundLog → List Fault
overlap f None = []
overlap f (Some other) = fault.Overlap f.log.path other.log.path ∷ []

-- one of its names is a path that the run reserves for itself
abbrev pub barred : FoundLog → Option Path → List Fault
barred f None = []
barred f (Some path) = fault.Overlap f.log.path path ∷ []

-- a path that a wildcard gives, and that is a member's of another log, is passed over without a fault
abbrev pub choice_fault : List Path → List FoundLog → FoundLog → Choice → List Fault
choice_fault reserved all f Kept = []
choice_fault reserved all f (Again i) = duplicate f (slice_get all i)
choice_fault reserved all f (MemberOf i) = []
choice_fault reserved all f (Reserved i) = barred f (slice_get reserved i)
choice_fault reserved all f (Meets i) = overlap f (slice_get all i)

-- the faults of some of the logs that were found, by their choices
abbrev pub choice_faults : List Path → List FoundLog → List FoundLog → List Choice → List Fault
choice_faults reserved all (f ∷ fs) (c ∷ cs) = choice_fault reserved all f c ++ choice_faults reserved all fs cs
choice_faults reserved all _ _ = []

abbrev pub where_kept : FoundLog → Choice → List FoundLog
where_kept f Kept = f ∷ []
where_kept f _ = []

-- those that are kept
abbrev pub kept_of : List FoundLog → List Choice → List FoundLog
kept_of (f ∷ fs) (c ∷ cs) = where_kept f c ++ kept_of fs cs
kept_of _ _ = []

-- a log that is kept and is no regular file is told
abbrev pub kind_fault : FoundLog → List Fault
kind_fault f = if is_file_kind f.seen.kind then [] else fault.NotFile f.log.path ∷ []

abbrev pub where_file : FoundLog → List FoundLog
where_file f = if is_file_kind f.seen.kind then f ∷ [] else []

-- The logs that are left are those that are kept and are regular files; the faults of the others are added, those of the choice
-- first.
pub record KeepsLogs (reserved : List Path) (found : List FoundLog) (faults all_faults : List Fault)
    (left : List FoundLog) : Type 0 where
  pub choices : List Choice
  pub chosen : IsChoiceAmong reserved found choices
  pub faults_are : all_faults ≡ faults ++ (choice_faults reserved found found choices
      ++ flat_map kind_fault (kept_of found choices))
  pub left_are : left ≡ flat_map where_file (kept_of found choices)
