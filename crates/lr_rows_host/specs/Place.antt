-- Where a file can go.
use Rattle.std.specs.Prelude.{◌≢◌}
use Rattle.lr_rules.specs.declared.path.Path.{Path}
use Rattle.lr_rules.specs.Path.{parent_of}
use Rattle.lr_host.specs.declared.thing.Thing.TheVariants as thing
use Rattle.lr_host.specs.World.{Names}
use Rattle.lr_host.specs.Fits.{IsDirectoryAt}

-- A rename can give a file the path: it is one in a directory, and a file's, or free.
pub record IsPlace (n : Names) (x : Path) : Type 0 where
  pub inside : IsDirectoryAt n (parent_of x)
  pub no_directory : n x ≢ thing.Directory
  pub no_other : n x ≢ thing.Other
