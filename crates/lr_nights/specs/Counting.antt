-- What is counted while the entries of a journal are gone through.
use Rattle.std.specs.Prelude.{◌≡◌, Bool, true, false}
use Rattle.lr_host.specs.declared.entry.Entry.{Entry}
use Rattle.lr_host.specs.declared.entry.Entry.TheVariants.{Starts}
use Rattle.lr_host.specs.World.{Past}
use Rattle.lr_host.specs.Sets.{LogSet}
use Rattle.lr_host.specs.Runs.{has_begun, rotations}
use Rattle.lr_nights.specs.declared.turning.Turning.{Turning}

-- a run begins
abbrev pub is_start : Entry → Bool
is_start (Starts state now rules) = true
is_start _ = false

-- the rotations of the set were counted as far as the journal goes
pub record IsTurning (s : LogSet) (p : Past) (t : Turning) : Type 0 where
  pub begun : t.begun ≡ has_begun s p
  pub count : t.count ≡ rotations s p
