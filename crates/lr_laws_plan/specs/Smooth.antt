-- Calls in which nothing is in the way of a run.
use Rattle.std.specs.Prelude.{◌≡◌, ◌≢◌, ◌≤◌, ◌⊎◌, ℕ, List, length}
use Rattle.lr_rules.specs.declared.path.Path.{Path}
use Rattle.lr_rules.specs.StatePath.{state_part}
use Rattle.lr_host.specs.declared.thing.Thing.TheVariants as thing
use Rattle.lr_host.specs.Fits.{IsFileAt}
use Rattle.lr_host.specs.Lists.{IsIn}
use Rattle.lr_host.specs.Quiet.{AttachedOnlySince}
use Rattle.lr_host.specs.Told.{Counts, Rose}
use Rattle.lr_host.specs.World.{Past, world, names}
use Rattle.lr_host.specs.Safe.{IsPrefix}
use Rattle.lr_copy.specs.declared.job.Job.{Job}

-- neither the count of failed calls rose nor that of bad ends; at its greatest value a count counts as risen
abbrev pub NoneRose : Counts → Counts → Type 0
NoneRose before now = (Rose before.faults now.faults → ⊥) × (Rose before.bad_ends now.bad_ends → ⊥)

-- Between the two pasts nothing is in the way of a run with this state, whose plan has these copies and makes these directories.
pub record IsSmooth (state : Path) (jobs : List Job) (dirs : List Path) (before after : Past) : Type 0 where
  -- no writer was attached to the path of a file that gets its name by a rename once it is whole, of a new state or of a copy, nor
  -- to that of such a directory, where the writer's file would stand in the way of its making
  pub spared : AttachedOnlySince (λ x. (x ≢ state_part state) × (((job : Job) → IsIn job jobs → job.part ≢ x) × (IsIn x dirs → ⊥)))
      before after
  -- at first nothing stood at the path of a copy's part file, or a regular file did
  pub free : (job : Job) → IsIn job jobs → (names (world before) job.part ≡ thing.Nothing)
      ⊎ IsFileAt (names (world before)) job.part
  -- no file was ever a log of these with more bytes than its copy may have
  pub short : (job : Job) → IsIn job jobs → (m : Past) → IsPrefix before m → IsPrefix m after → (g : ℕ)
      → names (world m) job.from ≡ thing.File g → length ((world m).files g).bytes ≤ job.limit
