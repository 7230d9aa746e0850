-- When an opening is a disk, and when entries are its history.
use Rattle.std.specs.Prelude.{◌≡◌, ℕ, ◌<◌, ◌≤◌, ◌==◌, List, [], ◌∷◌, ◌++◌, length, map, count_by, All, Contains}
use Rattle.lr_rules.specs.declared.path.Path.{Path}
use Rattle.lr_rules.specs.Path.{parent_of}
use Rattle.lr_host.specs.declared.journal.Opening.{Opening}
use Rattle.lr_host.specs.Lists.{AreDistinct}
use Rattle.lr_host.specs.World.{Past, Opens, ◌▸◌, world}
use Rattle.lr_host.specs.Fits.{Fits}

-- the paths that name something
abbrev pub opening_paths : Opening → List Path
opening_paths o = map (λ n. n.0) o.names ++ (o.dirs ++ o.others)

-- The opening is a disk.
pub record IsValid (o : Opening) : Type 0 where
  -- no path names two things
  pub once : AreDistinct (opening_paths o)
  -- `/` is a directory
  pub root : Contains o.dirs (47 ∷ [])
  -- each path stands in a directory
  pub inside : All (λ x. Contains o.dirs (parent_of x)) (opening_paths o)
  -- each file has exactly one name
  pub named : (g : ℕ) → g < length o.files → count_by (λ n. n.1 == g) o.names ≡ 1
  -- each named identity exists
  pub known : All (λ n. n.1 < length o.files) o.names
  -- each held identity exists
  pub held : All (λ h. h.1 < length o.files) o.holds
  -- no writer holds twice
  pub hold_once : AreDistinct (map (λ h. h.0) o.holds)
  -- no file is synced further than it is long
  pub synced : All (λ f. f.synced ≤ length f.bytes) o.files

-- The past is one of a disk: its opening is valid, and each entry fits the world before it and is true.
abbrev pub IsJournal : Past → Type 0
IsJournal (Opens o) = IsValid o
IsJournal (p ▸ e) = IsJournal p × Fits (world p) e
