-- Where a trouble is told.
use Rattle.std.specs.Prelude.{ℕ}
use Rattle.lr_rows_line.specs.declared.trouble.Trouble.{Trouble}
use Rattle.lr_rows_line.specs.declared.trouble.Trouble.TheVariants as trouble

-- the trouble, at the line with this number where it has none yet
abbrev pub told_at : ℕ → Trouble → Trouble
told_at line (trouble.Odd why) = trouble.Line line why
told_at line other = other
