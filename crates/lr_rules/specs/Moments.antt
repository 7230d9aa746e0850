-- The moment that a stamp tells.
use Rattle.std.specs.Prelude.{◌≡◌, ℤ, pos, List, ℕ, if◌then◌else◌}
use Rattle.lr_rules.specs.declared.rule.Field.TheVariants as field
use Rattle.lr_rules.specs.declared.rule.Piece.{Piece}
use Rattle.lr_rules.specs.Civil.{IsMoment, moment_seconds}
use Rattle.lr_rules.specs.declared.stamp_parts.StampParts.{StampParts}
use Rattle.lr_rules.specs.StampParts.{least}
use Rattle.lr_rules.specs.Stamps.{is_in, IsStampReading}

-- the parts are those of a moment of the calendar
abbrev pub AreOfMoment : StampParts → Type 0
AreOfMoment p = IsMoment (pos p.year) p.month p.day p.hour p.minute p.second

abbrev pub parts_seconds : StampParts → ℤ
parts_seconds p = moment_seconds (pos p.year) p.month p.day p.hour p.minute p.second

-- the seconds since 1970 where they stand among the pieces, else those of the civil moment
abbrev pub seconds_by : List Piece → StampParts → ℤ
seconds_by pieces p = if is_in field.Epoch pieces then pos p.epoch else parts_seconds p

-- The bytes are the pieces with the fields of a moment filled in; a field that lacks is the least of its kind. Their seconds are
-- these.
pub record IsStamp (pieces : List Piece) (seconds : ℤ) (bytes : List ℕ) : Type 0 where
  pub parts : StampParts
  pub reading : IsStampReading pieces least parts bytes
  pub moment : AreOfMoment parts
  pub is : seconds ≡ seconds_by pieces parts
