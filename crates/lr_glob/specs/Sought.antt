-- What a wildcard seeks.
use Rattle.std.specs.Prelude.{◌≡◌, ℕ, List}
use Rattle.lr_rules.specs.Match.{WordGives}
use Rattle.lr_host.specs.declared.thing.Kind.TheVariants as kind
use Rattle.lr_glob.specs.declared.found.Found.{Found}

-- The word gives the path, and a regular file was seen there.
pub record IsSought (word : List ℕ) (f : Found) : Type 0 where
  pub given : WordGives word f.path
  pub file : f.seen.kind ≡ kind.File
