-- When the writing of a state may begin.
use Rattle.std.specs.Prelude.{◌≢◌, Bool, true, false, List, [], ◌∷◌, Option}
use Rattle.lr_rules.specs.declared.path.Path.{Path}
use Rattle.lr_rules.specs.Path.{parent_of}
use Rattle.lr_rules.specs.StatePath.{state_part}
use Rattle.lr_host.specs.declared.thing.Thing.TheVariants as thing
use Rattle.lr_host.specs.declared.journal.Journal.{Journal}
use Rattle.lr_host.specs.World.{world, Names, names}
use Rattle.lr_host.specs.Fits.{IsFileAt, IsDirectoryAt}
use Rattle.lr_host.specs.Told.{WhereTold}

-- each is the path of a directory
abbrev pub AreDirectories : Names → List Path → Type 0
AreDirectories n [] = Unit {0}
AreDirectories n (d ∷ dirs) = IsDirectoryAt n d × AreDirectories n dirs

-- The state's path is that of a file, or free; its directory and the others stand.
pub record StateHasPlace (state : Path) (dirs : List Path) (n : Names) : Type 0 where
  pub no_directory : n state ≢ thing.Directory
  pub no_other : n state ≢ thing.Other
  pub place : IsDirectoryAt n (parent_of state)
  pub directories : AreDirectories n dirs

-- where an old part file was seen, one has the path
abbrev pub IsThere : Path → Bool → Names → Type 0
IsThere path true n = IsFileAt n path
IsThere path false n = Unit {0}

-- Where the journal is told: there is a place for the state, and the old part file that was seen stands.
pub record CanBegin (told : Option Journal) (state : Path) (stale : Bool) (dirs : List Path) : Type 0 where
  pub place : WhereTold told (λ p. StateHasPlace state dirs (names (world p)))
  pub part : WhereTold told (λ p. IsThere (state_part state) stale (names (world p)))
