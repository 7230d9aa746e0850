-- What calls of a host ask for, where it tells what stands.
use Rattle.std.proofs.Common.{◌≢◌, Option, Some, None}
use Rattle.lr_rules.specs.declared.path.Path.{Path}
use Rattle.lr_rules.specs.Path.{parent_of}
use Rattle.lr_host.specs.declared.entry.Entry.TheVariants.{Renames}
use Rattle.lr_host.specs.declared.journal.Journal.{Journal}
use Rattle.lr_host.specs.declared.thing.Thing.TheVariants as thing
use Rattle.lr_host.specs.Fits.{IsFileAt, IsDirectoryAt, MaybeFileAt}
use Rattle.lr_host.specs.Told.{WhereTold, Can}
use Rattle.lr_host.specs.World.{world, names}

pub can_rename : (o : Option Journal) (from to : Path) → WhereTold o (λ p. IsFileAt (names (world p)) from) → WhereTold o (λ p. IsDirectoryAt (names (world p)) (parent_of to)) → WhereTold o (λ p. names (world p) to ≢ thing.Directory)
    → WhereTold o (λ p. names (world p) to ≢ thing.Other) → WhereTold o (λ _. from ≢ to) → Can o (Renames from to)
can_rename None from to file dir no_dir no_other apart = record { can = tt }
can_rename (Some j) from to file dir no_dir no_other apart = record { can = (file, no_dir, no_other, dir, apart) }

pub no_input : (o : Option Journal) → WhereTold o (λ p. MaybeFileAt (names (world p)) None)
no_input None = tt
no_input (Some j) = tt
