-- The members of a dated family.
use Rattle.std.specs.Prelude.{◌≡◌, ◌≤◌, ◌⊎◌, ℤ, pos, ◌+ℤ◌, ◌*ℤ◌, ℕ, zero, suc, true, List, [], ◌∷◌, ◌++◌, decimal, Some}
use Rattle.lr_rules.specs.declared.path.Path.{Path}
use Rattle.lr_rules.specs.declared.rule.Format.{Format}
use Rattle.lr_rules.specs.declared.rule.Naming.{Naming}
use Rattle.lr_rules.specs.Path.{joined}
use Rattle.lr_rules.specs.Moments.{IsStamp}

-- what stands behind a stamp: nothing for 0, else a dot and the serial number
abbrev pub serial_text : ℕ → List ℕ
serial_text zero = []
serial_text (suc k) = 46 ∷ decimal (suc k)

-- The serial number of a member: 0, or where the format has them one up to 4,294,967,295.
abbrev pub IsSerial : Format → ℕ → Type 0
IsSerial format serial = (serial ≡ 0) ⊎ ((format.serial ≡ true) × (serial ≤ 4294967295))

-- The bytes are a stamp that tells these seconds, and the serial number behind it.
pub record IsNumberedStamp (format : Format) (seconds : ℤ) (serial : ℕ) (bytes : List ℕ) : Type 0 where
  pub stamp : List ℕ
  pub is : IsStamp format.pieces seconds stamp
  pub numbered : IsSerial format serial
  pub text : bytes ≡ stamp ++ serial_text serial

-- The path is that of the dated member whose stamp tells these seconds, with this serial number.
pub record IsDatedAt (n : Naming) (seconds : ℤ) (serial : ℕ) (x : Path) : Type 0 where
  pub format : Format
  pub dated : n.dated ≡ Some format
  pub middle : List ℕ
  pub is : IsNumberedStamp format seconds serial middle
  pub named : x ≡ joined n.dir (n.base ++ middle ++ n.ext)

-- The order of dated members as one number: by the seconds of their stamps, those of one stamp by their serial numbers.
abbrev pub stamp_key : ℤ → ℕ → ℤ
stamp_key seconds serial = seconds *ℤ pos 4294967296 +ℤ pos serial
