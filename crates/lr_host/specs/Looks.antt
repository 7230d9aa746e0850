-- What one look at a path shows.
use Rattle.std.specs.Prelude.{◌≡◌, ◌≢◌, Bool, true, false, List, [], ◌∷◌, Option, Some, None}
use Rattle.lr_rules.specs.declared.path.Path.{Path}
use Rattle.lr_host.specs.declared.thing.Kind.{Kind}
use Rattle.lr_host.specs.declared.thing.Kind.TheVariants as kind
use Rattle.lr_host.specs.declared.thing.Seen.{Seen}
use Rattle.lr_host.specs.declared.entry.Entry.{Entry}
use Rattle.lr_host.specs.declared.entry.Entry.TheVariants as entry

-- one look at a path, which saw such a thing
pub record Sees (path : Path) (P : Option Seen → Type 0) (ts : List Entry) : Type 0 where
  pub seen : Option Seen
  pub is : P seen
  pub look : ts ≡ entry.Look path seen ∷ []

-- A look at a path, and what it saw.
pub record PathSight : Type 0 where
  pub path : Path
  pub seen : Option Seen

abbrev pub look_of : PathSight → Entry
look_of s = entry.Look s.path s.seen

-- nothing was seen
abbrev pub IsNothing : Option Seen → Type 0
IsNothing seen = seen ≡ None

-- a regular file was seen; something else than one; one, or nothing
abbrev pub IsFile : Option Seen → Type 0
IsFile None = ⊥
IsFile (Some seen) = seen.kind ≡ kind.File

abbrev pub IsNoFile : Option Seen → Type 0
IsNoFile None = ⊥
IsNoFile (Some seen) = seen.kind ≢ kind.File

abbrev pub IsFileOrGone : Option Seen → Type 0
IsFileOrGone None = Unit {0}
IsFileOrGone (Some seen) = seen.kind ≡ kind.File

-- a directory was seen; something else than one; that, or nothing
abbrev pub IsDir : Option Seen → Type 0
IsDir None = ⊥
IsDir (Some seen) = seen.kind ≡ kind.Dir

abbrev pub IsNoDir : Option Seen → Type 0
IsNoDir None = ⊥
IsNoDir (Some seen) = seen.kind ≢ kind.Dir

abbrev pub IsNotDir : Option Seen → Type 0
IsNotDir None = Unit {0}
IsNotDir (Some seen) = seen.kind ≢ kind.Dir

-- neither a file nor a directory
abbrev pub IsNothingOrOther : Option Seen → Type 0
IsNothingOrOther None = Unit {0}
IsNothingOrOther (Some seen) = seen.kind ≡ kind.Other

abbrev pub is_dir_kind : Kind → Bool
is_dir_kind kind.Dir = true
is_dir_kind _ = false

-- whether a directory was seen
abbrev pub is_dir : Option Seen → Bool
is_dir None = false
is_dir (Some seen) = is_dir_kind seen.kind
