-- That the moments of stamps don't go back, by a moment or by a call's clock, and which serial number comes next.
use Rattle.std.specs.Prelude.{◌≡◌, ◌⊎◌, ◌<◌, ◌+◌, ℕ, ℤ, ◌≤ℤ◌, List}
use Rattle.lr_rules.specs.declared.clock.Clock.{Clock}
use Rattle.lr_rules.specs.declared.path.Path.{Path}
use Rattle.lr_rules.specs.declared.rule.Naming.{Naming}
use Rattle.lr_rules.specs.Dated.{IsDatedAt}
use Rattle.lr_stamps.specs.Dated.{clock_seconds}
use Rattle.lr_host.specs.World.{Names, Change, Past, world, names}
use Rattle.lr_host.specs.Fits.{IsFileAt}
use Rattle.lr_host.specs.Sets.{LogSet, Dated, order}
use Rattle.lr_host.specs.Kept.{Leaves}

-- No member that names a file, now or after a cut that is allowed now, has a later moment than this one; and each with just this
-- moment that names a file after such a cut names one now.
pub record IsForwardBy (s : LogSet) (p : Past) (seconds : ℤ) : Type 0 where
  pub none_later : (n : Names) (undone : List Change) → Leaves p n undone → (y : Path) (t : ℤ) (serial : ℕ)
      → IsDatedAt s.naming t serial y → IsFileAt n y → t ≤ℤ seconds
  pub none_back : (n : Names) (undone : List Change) → Leaves p n undone → (y : Path) (serial : ℕ)
      → IsDatedAt s.naming seconds serial y → IsFileAt n y → IsFileAt (names (world p)) y

-- The moments of a dated set haven't gone ahead of the stamp that this clock gives; of a numbered set nothing is asked.
abbrev pub IsForwardFor : Clock → LogSet → Past → Type 0
IsForwardFor clock s p = order s ≡ Dated → IsForwardBy s p (clock_seconds s.naming.dated clock)

-- The serial number that comes next at a moment: 0 where no member with this moment names a file, else one more than the greatest
-- of those.
pub record IsNextSerial (n : Naming) (m : Names) (seconds : ℤ) (serial : ℕ) : Type 0 where
  pub above : (y : Path) (k : ℕ) → IsDatedAt n seconds k y → IsFileAt m y → k < serial
  pub least : (serial ≡ 0) ⊎ ((y : Path) × (k : ℕ) × (serial ≡ k + 1) × IsDatedAt n seconds k y × IsFileAt m y)
