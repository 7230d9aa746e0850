-- The rule that the fields of a definition make.
use Rattle.std.specs.Prelude.{ℕ, List, [], ◌∷◌, Option, Some, None, if◌then◌else◌}
use Rattle.lr_rules.specs.declared.path.Path.{Path}
use Rattle.lr_rules.specs.declared.rule.Criterion.{Criterion}
use Rattle.lr_rules.specs.declared.rule.Criterion.TheVariants as criterion
use Rattle.lr_rules.specs.declared.rule.Field.TheVariants as field
use Rattle.lr_rules.specs.declared.rule.Format.{Format}
use Rattle.lr_rules.specs.declared.rule.Piece.{Piece}
use Rattle.lr_rules.specs.declared.rule.Piece.TheVariants as piece
use Rattle.lr_rules.specs.declared.rule.Rule.{Rule}
use Rattle.lr_conf.specs.declared.fields.Fields.{Fields}

-- `-%Y%m%d`, and with the hour where the criterion is hourly
abbrev pub default_pieces : Criterion → List Piece
default_pieces criterion.Hourly = piece.Byte 45 ∷ piece.Field field.Year ∷ piece.Field field.Month ∷ piece.Field field.Day ∷
    piece.Field field.Hour ∷ []
default_pieces c = piece.Byte 45 ∷ piece.Field field.Year ∷ piece.Field field.Month ∷ piece.Field field.Day ∷ []

-- those that a line gives, else the default by the criterion that the definition has when it ends
abbrev pub pieces_of : Criterion → Option (List Piece) → List Piece
pieces_of c (Some pieces) = pieces
pieces_of c None = default_pieces c

abbrev pub format_of : Fields → Option Format
format_of f = if f.dated then Some (record { pieces = pieces_of f.rule.criterion f.pieces; back = f.back; serial = f.serial }) else
    None

-- the rule of a definition that is whole
abbrev pub rule_of : Path → ℕ → List (List ℕ) → Fields → Rule
rule_of file at words f = record (f.rule) { file = file; line = at; words = words; dated = format_of f }
