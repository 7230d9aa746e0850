-- The stamps of a format within its limits have no slash.
use Rattle.std.proofs.Common.{◌≡◌, inl, inr, ℕ, ◌<◌, ◌≤◌, Bool, true, false, ◌&&◌, ◌||◌, refl, ◌∙◌, ap, arith, List, [], ◌∷◌, ◌++◌, length, Some, eqb-true}
use Rattle.std.specs.List.{list_any, list_all}
use Rattle.std.proofs.lemmas.Bool.{and_parts, or_parts, or_from, not-true}
use Rattle.std.proofs.lemmas.List.Elements.{All-head, All-tail}
use Rattle.std.proofs.lemmas.List.Folds.{list_all-append}
use Rattle.lr_rules.specs.declared.rule.Field.{Field}
use Rattle.lr_rules.specs.declared.rule.Field.TheVariants as field
use Rattle.lr_rules.specs.declared.rule.Format.{Format}
use Rattle.lr_rules.specs.declared.rule.Piece.{Piece}
use Rattle.lr_rules.specs.declared.rule.Piece.TheVariants as piece
use Rattle.lr_rules.specs.Limits.{is_plain_piece, is_format}
use Rattle.lr_rules.specs.Names.{AreDigits, IsFieldShape, IsStampShape, number_pieces, IsMiddleShape}
use Rattle.lr_rules.specs.Path.{is_bad_byte, is_slash}
use Rattle.lr_rules.proofs.PathLemmas.{plain_both}
use Rattle.lr_rules.proofs.Digits.{IsDigit}

-- ---- digits

no_slash : (d : ℕ) → IsDigit d → is_slash d ≡ false
no_slash d r = go (is_slash d) refl
  where
    go : (b : Bool) → is_slash d ≡ b → b ≡ false
    go true e = let same : d ≡ 47 = eqb-true d 47 e in let low : 48 ≤ d = r.0 in absurd (omega arith)
    go false e = refl

digits_plain : (ds : List ℕ) → AreDigits ds → list_any is_slash ds ≡ false
digits_plain [] h = refl
digits_plain (d ∷ ds) h = or_from (is_slash d) (list_any is_slash ds) (no_slash d (All-head IsDigit d ds h)) (digits_plain ds (All-tail IsDigit d ds h))

pub field_digits : (f : Field) (ds : List ℕ) → IsFieldShape f ds → AreDigits ds
field_digits field.Year ds h = h.1
field_digits field.Epoch ds h = h.1
field_digits field.Month ds h = h.1
field_digits field.Day ds h = h.1
field_digits field.Hour ds h = h.1
field_digits field.Minute ds h = h.1
field_digits field.Second ds h = h.1

pub field_some : (f : Field) (ds : List ℕ) → IsFieldShape f ds → 0 < length ds
field_some field.Year ds h = let l : length ds ≡ 4 = h.0 in omega arith
field_some field.Epoch ds h = h.0
field_some field.Month ds h = let l : length ds ≡ 2 = h.0 in omega arith
field_some field.Day ds h = let l : length ds ≡ 2 = h.0 in omega arith
field_some field.Hour ds h = let l : length ds ≡ 2 = h.0 in omega arith
field_some field.Minute ds h = let l : length ds ≡ 2 = h.0 in omega arith
field_some field.Second ds h = let l : length ds ≡ 2 = h.0 in omega arith

-- ---- stamps

byte_plain : (b : ℕ) → is_plain_piece (piece.Byte b) ≡ true → is_slash b ≡ false
byte_plain b h = (or_parts (is_slash b) (is_bad_byte b) (or_parts _ (is_slash b || is_bad_byte b) (not-true _ h)).1).0

shape_plain : (ps : List Piece) (w : List ℕ) → list_all is_plain_piece ps ≡ true → IsStampShape ps w → list_any is_slash w ≡ false
shape_plain [] w good h = ap (list_any is_slash) h
shape_plain (piece.Byte b ∷ ps) w good h =
    let g = and_parts (is_plain_piece (piece.Byte b)) (list_all is_plain_piece ps) good in
    ap (list_any is_slash) h.1 ∙ or_from (is_slash b) (list_any is_slash h.0) (byte_plain b g.0) (shape_plain ps h.0 g.1 h.2)
shape_plain (piece.Field f ∷ ps) w good h = ap (list_any is_slash) h.2 ∙ plain_both h.0 h.1 (digits_plain h.0 (field_digits f h.0 h.3)) (shape_plain ps h.1 good h.4)

pieces_plain : (f : Format) → is_format f ≡ true → list_all is_plain_piece f.pieces ≡ true
pieces_plain f good = (and_parts (list_all is_plain_piece f.pieces) _ good).0

-- with a serial number behind it or without
pub middle_plain : (f : Format) (w : List ℕ) → is_format f ≡ true → IsMiddleShape (Some f) w → list_any is_slash w ≡ false
middle_plain f w good (inl h) = shape_plain f.pieces w (pieces_plain f good) h
middle_plain f w good (inr h) = shape_plain (f.pieces ++ number_pieces) w (list_all-append is_plain_piece f.pieces number_pieces ∙ ap (λ b. b && true) (pieces_plain f good)) h.1
