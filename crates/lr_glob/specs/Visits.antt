-- What a look at a directory, and its listing, gave.
use Rattle.std.specs.Prelude.{◌≡◌, List, [], ◌∷◌, ℕ, Option, if◌then◌else◌}
use Rattle.lr_rules.specs.declared.path.Path.{Path}
use Rattle.lr_host.specs.declared.thing.Seen.{Seen}
use Rattle.lr_host.specs.declared.entry.Entry.{Entry}
use Rattle.lr_host.specs.declared.entry.Entry.TheVariants as entry
use Rattle.lr_host.specs.Looks.{is_dir}

-- What the look at a path saw, and the names that were listed where that was a directory.
pub record WordVisit : Type 0 where
  pub dir : Path
  pub seen : Option Seen
  pub listed : List (List ℕ)

-- the names in it: none where it is no directory
abbrev pub visit_names : WordVisit → List (List ℕ)
visit_names v = if is_dir v.seen then v.listed else []

-- the entries that it left
abbrev pub visit_entries : WordVisit → List Entry
visit_entries v = entry.Look v.dir v.seen ∷ (if is_dir v.seen then entry.List v.dir v.listed ∷ [] else [])

-- The directory was visited, and these are the names in it.
pub record Visited (dir : Path) (names : List (List ℕ)) (ts : List Entry) : Type 0 where
  pub visit : WordVisit
  pub at : visit.dir ≡ dir
  pub names_are : visit_names visit ≡ names
  pub entries : ts ≡ visit_entries visit
