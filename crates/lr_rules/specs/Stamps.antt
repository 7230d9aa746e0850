-- The text of a stamp, and what it says.
use Rattle.std.specs.Prelude.{◌≡◌, ◌+◌, ◌/◌, ◌%◌, ◌<◌, ℕ, ◌==◌, Bool, true, false, ◌||◌, List, [], ◌∷◌, ◌++◌, flat_map, decimal}
use Rattle.lr_rules.specs.declared.rule.Field.{Field}
use Rattle.lr_rules.specs.declared.rule.Field.TheVariants as field
use Rattle.lr_rules.specs.declared.rule.Piece.{Piece}
use Rattle.lr_rules.specs.declared.rule.Piece.TheVariants as piece
use Rattle.lr_rules.specs.Limits.{rank}
use Rattle.lr_rules.specs.declared.stamp_parts.StampParts.{StampParts}
use Rattle.lr_rules.specs.StampParts.{part}

-- two digits
abbrev pub two : ℕ → List ℕ
two n = (48 + n / 10) ∷ (48 + n % 10) ∷ []

-- the digits of a field with this value
abbrev pub field_text : Field → ℕ → List ℕ
field_text field.Year n = two (n / 100) ++ two (n % 100)
field_text field.Epoch n = decimal n
field_text _ n = two n

-- what a field can show is below this
abbrev pub bound : Field → ℕ
bound field.Year = 10000
bound field.Epoch = 1000000000000
bound _ = 100

abbrev pub piece_text : StampParts → Piece → List ℕ
piece_text p (piece.Byte b) = b ∷ []
piece_text p (piece.Field f) = field_text f (part p f)

-- the format with its fields filled in
abbrev pub stamp_text : StampParts → List Piece → List ℕ
stamp_text p pieces = flat_map (piece_text p) pieces

abbrev pub same_field : Field → Field → Bool
same_field f g = rank f == rank g

-- the field stands among the pieces
abbrev pub is_in : Field → List Piece → Bool
is_in f [] = false
is_in f (piece.Byte b ∷ pieces) = is_in f pieces
is_in f (piece.Field g ∷ pieces) = same_field f g || is_in f pieces

-- The bytes are the text of the pieces with these values. Fields that don't stand among the pieces have those that they had before.
pub record IsStampReading (pieces : List Piece) (before p : StampParts) (bytes : List ℕ) : Type 0 where
  pub text : bytes ≡ stamp_text p pieces
  pub small : (f : Field) → is_in f pieces ≡ true → part p f < bound f
  pub rest : (f : Field) → is_in f pieces ≡ false → part p f ≡ part before f
