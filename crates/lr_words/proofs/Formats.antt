-- What makes pieces a format.
use Rattle.std.proofs.Common.{◌≡◌, ℕ, Bool, true, false, ◌&&◌, ◌||◌, List, length, nat_le, ap, sym, ◌∙◌}
use Rattle.std.specs.List.{list_all}
use Rattle.std.specs.Str.{is_utf8}
use Rattle.std.proofs.lemmas.Bool.{and_parts}
use Rattle.lr_rules.specs.declared.rule.Piece.{Piece}
use Rattle.lr_rules.specs.Limits.{written, is_plain_piece, are_first, is_epoch_alone}
use Rattle.lr_words.specs.Formats.{WritesFormat}
use Rattle.lr_words.proofs.Pieces.{one_list}

pub record Parts (word : List ℕ) (pieces : List Piece) : Type 0 where
  pub plain : list_all is_plain_piece pieces ≡ true
  pub utf8 : is_utf8 word ≡ true
  pub short : nat_le (length word) 64 ≡ true
  pub fields : (are_first pieces || is_epoch_alone pieces) ≡ true

pub parts_of : (word : List ℕ) (pieces : List Piece) → WritesFormat word pieces → Parts word pieces
parts_of word pieces w =
    let fields : Bool = are_first pieces || is_epoch_alone pieces in
    let short : Bool = nat_le (length (written pieces)) 64 in
    let a = and_parts (list_all is_plain_piece pieces) (is_utf8 (written pieces) && (short && fields)) w.format in
    let b = and_parts (is_utf8 (written pieces)) (short && fields) a.1 in
    let c = and_parts short fields b.1 in
    record {
      plain = a.0;
      utf8 = ap is_utf8 (sym w.bytes) ∙ b.0;
      short = ap (λ xs. nat_le (length xs) 64) (sym w.bytes) ∙ c.0;
      fields = c.1;
    }

-- the pieces of a word have no fields of a moment, and no others are written by it
pub no_fields : (word : List ℕ) (pieces qs : List Piece) → written pieces ≡ word → list_all is_plain_piece pieces ≡ true → (are_first pieces || is_epoch_alone pieces) ≡ false → WritesFormat word qs → ⊥
no_fields word pieces qs e plain none w =
    let p = parts_of word qs w in
    let same = one_list qs pieces p.plain plain (w.bytes ∙ sym e) in
    let t : true ≡ false = sym p.fields ∙ (ap (λ ps. are_first ps || is_epoch_alone ps) same ∙ none) in absurd (cc)
