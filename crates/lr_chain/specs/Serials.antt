-- Which serial number comes next at a moment, among members that stand.
use Rattle.std.specs.Prelude.{◌≡◌, ◌⊎◌, ◌<◌, ◌+◌, ℕ, suc, max, ℤ, List, [], ◌∷◌, Any, if◌then◌else◌}
use Rattle.std.specs.Ordering.{int_eq}
use Rattle.lr_family.specs.declared.place.Place.{Place}
use Rattle.lr_family.specs.declared.place.Place.TheVariants as at
use Rattle.lr_family.specs.declared.stand.Member.{Member}

-- one of them has this moment and this serial number
abbrev pub HasStamp : List Member → ℤ → ℕ → Type 0
HasStamp members seconds serial = Any (λ m. m.place ≡ at.Stamp seconds serial) members

-- The serial number that comes next at the moment: 0 where no member has it, else one more than the greatest of those that do.
pub record IsNext (members : List Member) (seconds : ℤ) (serial : ℕ) : Type 0 where
  pub above : (k : ℕ) → HasStamp members seconds k → k < serial
  pub least : (serial ≡ 0) ⊎ ((k : ℕ) × (serial ≡ k + 1) × HasStamp members seconds k)

-- one more than the serial number of a place with this moment, 0 for any other place
abbrev pub serial_behind : ℤ → Place → ℕ
serial_behind seconds (at.Stamp moment serial) = if int_eq moment seconds then suc serial else 0
serial_behind seconds (at.Number place) = 0

-- The serial number that comes next at a moment: 0 where no member has the moment, else one more than the greatest of those that
-- do.
abbrev pub next_serial : List Member → ℤ → ℕ
next_serial [] seconds = 0
next_serial (m ∷ ms) seconds = max (serial_behind seconds m.place) (next_serial ms seconds)
