-- Which directories are synced.
use Rattle.std.specs.Prelude.{List, map}
use Rattle.std.specs.Ordering.{nat_cmp}
use Rattle.std.specs.Cmp.Lexicographic.{slice_cmp}
use Rattle.std.specs.List.Sorted.{IsStrictlySortedBy}
use Rattle.lr_rules.specs.declared.path.Path.{Path}
use Rattle.lr_rules.specs.Path.{parent_of}
use Rattle.lr_host.specs.Lists.{IsIn}

-- These are the directories of the paths: each once, in order of bytes.
pub record AreDirectoriesOf (paths dirs : List Path) : Type 0 where
  pub in_order : IsStrictlySortedBy (slice_cmp nat_cmp) dirs
  pub from : (dir : Path) → IsIn dir dirs → IsIn dir (map parent_of paths)
  pub all : (path : Path) → IsIn path paths → IsIn (parent_of path) dirs
