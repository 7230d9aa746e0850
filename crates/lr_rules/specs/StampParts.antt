-- The values of a stamp's fields.
use Rattle.std.specs.Prelude.{ℕ}
use Rattle.lr_rules.specs.declared.rule.Field.{Field}
use Rattle.lr_rules.specs.declared.rule.Field.TheVariants as field
use Rattle.lr_rules.specs.declared.stamp_parts.StampParts.{StampParts}

abbrev pub part : StampParts → Field → ℕ
part p field.Year = p.year
part p field.Month = p.month
part p field.Day = p.day
part p field.Hour = p.hour
part p field.Minute = p.minute
part p field.Second = p.second
part p field.Epoch = p.epoch

abbrev pub with_part : StampParts → Field → ℕ → StampParts
with_part p field.Year value = record p { year = value }
with_part p field.Month value = record p { month = value }
with_part p field.Day value = record p { day = value }
with_part p field.Hour value = record p { hour = value }
with_part p field.Minute value = record p { minute = value }
with_part p field.Second value = record p { second = value }
with_part p field.Epoch value = record p { epoch = value }

-- what a field has that a stamp lacks: the least of its kind
abbrev pub least : StampParts
least = record { year = 1970; month = 1; day = 1; hour = 0; minute = 0; second = 0; epoch = 0 }
