-- The names of dated members, as code reads and writes them.
use Rattle.std.specs.Prelude.{◌≡◌, ℤ, pos, List, ℕ, ◌++◌, Option, Some, None}
use Rattle.lr_rules.specs.declared.clock.Clock.{Clock}
use Rattle.lr_rules.specs.declared.path.Path.{Path}
use Rattle.lr_rules.specs.declared.rule.Format.{Format}
use Rattle.lr_rules.specs.declared.rule.Naming.{Naming}
use Rattle.lr_rules.specs.Path.{joined}
use Rattle.lr_rules.specs.Dated.{serial_text, IsSerial, IsNumberedStamp}
use Rattle.lr_stamps.specs.Clocks.{stamp_of, stamp_seconds}

-- The name is base, a stamp of these seconds with this serial number, and extension.
pub record IsNamedBy (n : Naming) (format : Format) (seconds : ℤ) (serial : ℕ) (name : List ℕ) : Type 0 where
  pub middle : List ℕ
  pub is : IsNumberedStamp format seconds serial middle
  pub named : name ≡ n.base ++ middle ++ n.ext

-- The path is that of the member whose stamp the clock gives, with this serial number.
pub record IsDatedBy (n : Naming) (clock : Clock) (serial : ℕ) (x : Path) : Type 0 where
  pub format : Format
  pub dated : n.dated ≡ Some format
  pub named : x ≡ joined n.dir (n.base ++ (stamp_of format clock ++ serial_text serial) ++ n.ext)

-- a serial number that a naming's members may have
abbrev pub MayHaveSerial : Option Format → ℕ → Type 0
MayHaveSerial None serial = ⊥
MayHaveSerial (Some format) serial = IsSerial format serial

-- the seconds of the stamp that the clock gives
abbrev pub clock_seconds : Option Format → Clock → ℤ
clock_seconds None clock = pos 0
clock_seconds (Some format) clock = stamp_seconds format clock
