-- Formats of dates.
use Rattle.std.specs.Prelude.{◌≡◌, ℕ, ◌==◌, Bool, true, false, List, [], ◌∷◌, ◌++◌, Option, Some, None, Result, Ok, Err}
use Rattle.std.specs.Prelude.{if◌then◌else◌}
use Rattle.lr_rules.specs.declared.fault.ConfKind.{ConfKind}
use Rattle.lr_rules.specs.declared.fault.ConfKind.TheVariants as kind
use Rattle.lr_rules.specs.declared.rule.Back.TheVariants as back
use Rattle.lr_rules.specs.declared.rule.Field.{Field}
use Rattle.lr_rules.specs.declared.rule.Field.TheVariants as field
use Rattle.lr_rules.specs.declared.rule.Piece.{Piece}
use Rattle.lr_rules.specs.declared.rule.Piece.TheVariants as piece
use Rattle.lr_rules.specs.Limits.{is_plain_piece, written, is_format}

-- The word writes these pieces, and they are a format: bytes that stand for themselves, and the fields of a moment.
pub record WritesFormat (word : List ℕ) (pieces : List Piece) : Type 0 where
  pub bytes : written pieces ≡ word
  pub format : is_format (record { pieces = pieces; back = back.Now; serial = false }) ≡ true

-- the format that the word writes; BadFormat where it writes none
abbrev pub FormatSays : List ℕ → Result (List Piece) ConfKind → Type 0
FormatSays word (Ok pieces) = WritesFormat word pieces
FormatSays word (Err k) = (k ≡ kind.BadFormat) × ((pieces : List Piece) → WritesFormat word pieces → ⊥)

-- ---- the same as a value

-- the field of a letter
abbrev pub field_of : ℕ → Option Field
field_of b =
    if b == 89 then Some field.Year
    else if b == 109 then Some field.Month
    else if b == 100 then Some field.Day
    else if b == 72 then Some field.Hour
    else if b == 77 then Some field.Minute
    else if b == 83 then Some field.Second
    else if b == 115 then Some field.Epoch
    else None

-- a field, or a `%` and the byte behind it where that is the letter of none
abbrev pub behind_percent : ℕ → Option Field → List Piece → List Piece
behind_percent b None pieces = piece.Byte 37 ∷ piece.Byte b ∷ pieces
behind_percent b (Some f) pieces = piece.Field f ∷ pieces

-- the pieces that bytes write, behind a `%` or not: a `%` and a letter are a field, any other byte is itself
abbrev pub pieces_from : Bool → List ℕ → List Piece
pieces_from false [] = []
pieces_from true [] = piece.Byte 37 ∷ []
pieces_from false (b ∷ bs) = if b == 37 then pieces_from true bs else (piece.Byte b ∷ pieces_from false bs)
pieces_from true (b ∷ bs) = behind_percent b (field_of b) (pieces_from false bs)

-- the format that the word says: its pieces, where they are one
unfoldable pub format_value : List ℕ → Result (List Piece) ConfKind
format_value word = let pieces = pieces_from false word in if is_format
    (record { pieces = pieces; back = back.Now; serial = false }) then Ok pieces else Err kind.BadFormat

-- ---- pieces

-- the bytes begin with what this piece is written by
pub record BeginsWith (bytes : List ℕ) (piece : Piece) (left : List ℕ) : Type 0 where
  pub is : bytes ≡ written (piece ∷ []) ++ left
  pub plain : is_plain_piece piece ≡ true

abbrev pub BeginsWithNone : List ℕ → Type 0
BeginsWithNone bytes = (piece : Piece) (left : List ℕ) → BeginsWith bytes piece left → ⊥
