-- The stamp that a clock gives.
use Rattle.std.specs.Prelude.{ℕ, ℤ, List, unsigned_abs, if◌then◌else◌}
use Rattle.lr_rules.specs.declared.civil.Moment.{Moment}
use Rattle.lr_rules.specs.declared.clock.Clock.{Clock}
use Rattle.lr_rules.specs.declared.rule.Back.{Back}
use Rattle.lr_rules.specs.declared.rule.Back.TheVariants as back
use Rattle.lr_rules.specs.declared.rule.Field.{Field}
use Rattle.lr_rules.specs.declared.rule.Field.TheVariants as field
use Rattle.lr_rules.specs.declared.rule.Format.{Format}
use Rattle.lr_rules.specs.declared.rule.Piece.{Piece}
use Rattle.lr_rules.specs.declared.stamp_parts.StampParts.{StampParts}
use Rattle.lr_rules.specs.StampParts.{part, least}
use Rattle.lr_rules.specs.Stamps.{is_in, stamp_text}
use Rattle.lr_rules.specs.Moments.{seconds_by}

-- the moment that stamps tell
abbrev pub moment_by : Back → Clock → Moment
moment_by back.Now clock = clock.now
moment_by back.Yesterday clock = clock.yesterday
moment_by back.HourAgo clock = clock.hour_ago

-- its parts
abbrev pub parts_of : Moment → StampParts
parts_of m = record {
  year = unsigned_abs m.civil.year;
  month = m.civil.month;
  day = m.civil.day;
  hour = m.civil.hour;
  minute = m.civil.minute;
  second = m.civil.second;
  epoch = unsigned_abs m.seconds;
}

-- a value, or the least where the field lacks
abbrev pub kept_part : List Piece → StampParts → Field → ℕ
kept_part pieces p f = if is_in f pieces then part p f else part least f

-- the parts that stand among the pieces
abbrev pub kept_fields : List Piece → StampParts → StampParts
kept_fields pieces p = record {
  year = kept_part pieces p field.Year;
  month = kept_part pieces p field.Month;
  day = kept_part pieces p field.Day;
  hour = kept_part pieces p field.Hour;
  minute = kept_part pieces p field.Minute;
  second = kept_part pieces p field.Second;
  epoch = kept_part pieces p field.Epoch;
}

-- the stamp that a clock gives
abbrev pub stamp_of : Format → Clock → List ℕ
stamp_of format clock = stamp_text (parts_of (moment_by format.back clock)) format.pieces

-- and the seconds that it tells
abbrev pub stamp_seconds : Format → Clock → ℤ
stamp_seconds format clock = seconds_by format.pieces (kept_fields format.pieces (parts_of (moment_by format.back clock)))
