-- What a call of `expand` found, told of the disk and of what writers did meanwhile.
use Rattle.std.specs.Prelude.{◌≡◌, ◌⊎◌, ℕ, ℤ, List}
use Rattle.lr_rules.specs.declared.path.Path.{Path}
use Rattle.lr_host.specs.declared.entry.Entry.TheVariants.{Attach}
use Rattle.lr_host.specs.declared.thing.Kind.TheVariants as kind
use Rattle.lr_host.specs.declared.thing.Thing.TheVariants as thing
use Rattle.lr_host.specs.Fits.{IsFileAt}
use Rattle.lr_host.specs.Lists.{IsIn}
use Rattle.lr_host.specs.Safe.{IsPrefix}
use Rattle.lr_host.specs.World.{Past, ◌▸◌, world, names}
use Rattle.lr_glob.specs.declared.found.Found.{Found}

-- the path was found, and seen as a regular file
abbrev pub FindsFile : Path → List Found → Type 0
FindsFile x found = (f : Found) × IsIn f found × (f.path ≡ x) × (f.seen.kind ≡ kind.File)

-- A writer was attached to the path between the two moments.
pub record IsAttachedBetween (x : Path) (from until : Past) : Type 0 where
  pub at : Past
  pub writer : ℕ
  pub time : ℤ
  pub behind : IsPrefix from at
  pub before : IsPrefix (at ▸ Attach writer x time) until

-- the path named a regular file at the first moment; or nothing, and a writer was attached to it up to the second
abbrev pub StoodOrCame : Path → Past → Past → Type 0
StoodOrCame x from until = IsFileAt (names (world from)) x ⊎ ((names (world from) x ≡ thing.Nothing)
    × IsAttachedBetween x from until)
