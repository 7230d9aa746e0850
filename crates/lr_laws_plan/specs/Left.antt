-- What a path names behind a call.
use Rattle.std.specs.Prelude.{◌≡◌, ◌≢◌, ℕ, ◌++◌, drop, length}
use Rattle.lr_rules.specs.declared.path.Path.{Path}
use Rattle.lr_host.specs.declared.thing.Thing.TheVariants as thing
use Rattle.lr_host.specs.Quiet.{AttachedOnlySince}
use Rattle.lr_host.specs.World.{Past, world, names}
use Rattle.lr_laws.specs.StateWhole.{StandsAs}
use Rattle.lr_laws_family.specs.Moments.{fed}

-- The tool left the path alone between the two pasts.
pub record IsLeftAlone (before after : Past) (x : Path) : Type 0 where
  -- it names what it named, or, where that is nothing, maybe a file that a writer made since
  pub stands : StandsAs (world before).drawn (names (world before) x) (names (world after) x)
  -- just what it named, where no writer was attached to it
  pub same : AttachedOnlySince (λ y. y ≢ x) before after → names (world after) x ≡ names (world before) x
  -- a file that it named has its old bytes, and then what writers fed it
  pub bytes : (g : ℕ) → names (world before) x ≡ thing.File g
      → ((world after).files g).bytes ≡ ((world before).files g).bytes ++ drop (length (fed before g)) (fed after g)
