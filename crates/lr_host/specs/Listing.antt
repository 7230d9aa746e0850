-- What a listing of a directory shows, and which kind of thing is a regular file.
use Rattle.std.specs.Prelude.{◌≡◌, ℕ, Bool, true, false, List, [], ◌∷◌}
use Rattle.std.specs.List.Sorted.{IsPermutation, IsSortedByKey}
use Rattle.std.specs.Ordering.{nat_cmp}
use Rattle.std.specs.Cmp.Lexicographic.{slice_cmp}
use Rattle.lr_rules.specs.declared.path.Path.{Path}
use Rattle.lr_host.specs.declared.entry.Entry.{Entry}
use Rattle.lr_host.specs.declared.entry.Entry.TheVariants as entry
use Rattle.lr_host.specs.declared.thing.Kind.{Kind}
use Rattle.lr_host.specs.declared.thing.Kind.TheVariants as kind

-- the names stand in order of bytes
abbrev pub NamesRise : List (List ℕ) → Type 0
NamesRise names = IsSortedByKey (λ name. name) (slice_cmp nat_cmp) names

-- The directory was listed, and its names are these, in whatever order.
pub record HasListed (dir : Path) (names : List (List ℕ)) (ts : List Entry) : Type 0 where
  pub listed : List (List ℕ)
  pub same : IsPermutation listed names
  pub list : ts ≡ entry.List dir listed ∷ []

abbrev pub is_file_kind : Kind → Bool
is_file_kind kind.File = true
is_file_kind _ = false
