-- Civil seconds between two moments.
use Rattle.std.specs.Prelude.{ℤ, ◌-ℤ◌}
use Rattle.lr_rules.specs.Civil.{moment_seconds}
use Rattle.lr_rules.specs.declared.civil.Civil.{Civil}

-- the civil seconds since 1970-01-01 0:0:0
abbrev pub civil_seconds : Civil → ℤ
civil_seconds c = moment_seconds c.year c.month c.day c.hour c.minute c.second

-- how many civil seconds the second moment is behind the first
abbrev pub seconds_between : Civil → Civil → ℤ
seconds_between first second = civil_seconds second -ℤ civil_seconds first
