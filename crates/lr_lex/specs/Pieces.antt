-- A text that comes in pieces: what its first whole line is doesn't depend on what comes behind it.
use Rattle.std.specs.Prelude.{ℕ, Bool, List}
use Rattle.std.specs.List.{list_any}
use Rattle.lr_rules.specs.Bytes.{is_newline}

abbrev pub has_line : List ℕ → Bool
has_line bytes = list_any is_newline bytes
