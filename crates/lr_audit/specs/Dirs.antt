-- The directories of logs and of their families.
use Rattle.std.specs.Prelude.{◌↔◌, List, [], ◌∷◌, ◌++◌, map, Contains, if◌then◌else◌}
use Rattle.std.specs.List.{flat_map}
use Rattle.std.specs.List.Sorted.{IsStrictlySortedBy}
use Rattle.lr_rules.specs.declared.path.Path.{Path}
use Rattle.lr_rules.specs.Path.{parent_of}
use Rattle.lr_family.specs.Parts.{by_bytes}
use Rattle.lr_plan.specs.declared.looks.LogLook.{LogLook}
use Rattle.lr_plan.specs.declared.looks.Looks.{Looks}
use Rattle.lr_plan.specs.declared.looks.SetLooks.{SetLooks}

-- that of a log's family, where it is there
abbrev pub look_dir : LogLook → List Path
look_dir look = if look.stand.there then look.family.naming.dir ∷ [] else []

abbrev pub set_dirs : SetLooks → List Path
set_dirs set = flat_map look_dir set.logs

-- those of the logs that are kept, and of their families that were seen
abbrev pub asked_dirs : Looks → List Path
asked_dirs looks = map parent_of looks.kept ++ flat_map set_dirs looks.sets

-- These are they, each once, in order of bytes.
pub record AreDirs (asked dirs : List Path) : Type 0 where
  pub all : (x : Path) → Contains dirs x ↔ Contains asked x
  pub rising : IsStrictlySortedBy by_bytes dirs
