-- What the reader of a stamp asks of its pieces, and what it is asked itself.
use Rattle.std.specs.Prelude.{◌≡◌, ◌<◌, ℕ, Bool, true, false, ◌&&◌, nat_le, List, [], ◌∷◌, length}
use Rattle.lr_rules.specs.declared.rule.Field.{Field}
use Rattle.lr_rules.specs.declared.rule.Field.TheVariants as field
use Rattle.lr_rules.specs.declared.rule.Piece.{Piece}
use Rattle.lr_rules.specs.declared.rule.Piece.TheVariants as piece
use Rattle.lr_rules.specs.declared.stamp_parts.StampParts.{StampParts}
use Rattle.lr_rules.specs.StampParts.{part}
use Rattle.lr_rules.specs.Stamps.{bound, is_in}

-- no field stands among them
abbrev pub are_bytes : List Piece → Bool
are_bytes [] = true
are_bytes (piece.Byte b ∷ pieces) = are_bytes pieces
are_bytes (piece.Field f ∷ pieces) = false

-- each field stands once, and behind the seconds since 1970 stands no other
abbrev pub FieldsDiffer : List Piece → Type 0
FieldsDiffer [] = Unit {0}
FieldsDiffer (piece.Byte b ∷ pieces) = FieldsDiffer pieces
FieldsDiffer (piece.Field field.Epoch ∷ pieces) = are_bytes pieces ≡ true
FieldsDiffer (piece.Field f ∷ pieces) = (is_in f pieces ≡ false) × FieldsDiffer pieces

-- behind the seconds since 1970 so many bytes are left
abbrev pub HasLeft : Field → ℕ → List ℕ → Type 0
HasLeft field.Epoch after rest = length rest ≡ after
HasLeft _ after rest = Unit {0}

-- the first byte is a digit, and no zero but where it stands alone
abbrev pub is_plain : List ℕ → Bool
is_plain [] = false
is_plain (d ∷ []) = nat_le 48 d && nat_le d 57
is_plain (d ∷ e ∷ ds) = nat_le 49 d && nat_le d 57

-- each value is one that its field can show
abbrev pub ArePartsSmall : StampParts → Type 0
ArePartsSmall p = (f : Field) → part p f < bound f
