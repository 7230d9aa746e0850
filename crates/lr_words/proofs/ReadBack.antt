-- The format that a word says is the one that writes it.
use Rattle.std.proofs.Common.{◌≡◌, ℕ, ◌==◌, Bool, true, false, cond, List, [], ◌∷◌, Option, Some, None, Result, Ok, Err, refl, ap, sym, ◌∙◌, arith}
use Rattle.std.specs.List.{list_all}
use Rattle.std.proofs.lemmas.Bool.{and_parts}
use Rattle.std.proofs.lemmas.Bool.Decides.{nat_tests}
use Rattle.lr_rules.specs.declared.fault.ConfKind.{ConfKind}
use Rattle.lr_rules.specs.declared.fault.ConfKind.TheVariants as kind
use Rattle.lr_rules.specs.declared.rule.Back.TheVariants as back
use Rattle.lr_rules.specs.declared.rule.Field.{Field}
use Rattle.lr_rules.specs.declared.rule.Field.TheVariants as field
use Rattle.lr_rules.specs.declared.rule.Piece.{Piece}
use Rattle.lr_rules.specs.declared.rule.Piece.TheVariants as piece
use Rattle.lr_rules.specs.Limits.{letter, written, is_plain_piece, is_format}
use Rattle.lr_words.specs.Formats.{FormatSays, field_of, behind_percent, pieces_from, format_value}
use Rattle.lr_words.proofs.Formats.{parts_of}

at_letter : (f : Field) → field_of (letter f) ≡ Some f
at_letter field.Year = refl
at_letter field.Month = refl
at_letter field.Day = refl
at_letter field.Hour = refl
at_letter field.Minute = refl
at_letter field.Second = refl
at_letter field.Epoch = refl

no_percent : (b : ℕ) → is_plain_piece (piece.Byte b) ≡ true → (b == 37) ≡ false
no_percent b h = by (b == 37) refl
  where
    by : (t : Bool) → (b == 37) ≡ t → t ≡ false
    by false is = refl
    by true is = let e : b ≡ 37 = grind (arith, nat_tests) in let n : is_plain_piece (piece.Byte 37) ≡ true = sym (ap (λ x. is_plain_piece (piece.Byte x)) e) ∙ h in absurd (cc)

-- what plain pieces are written by is read to them
read_back : (ps : List Piece) → list_all is_plain_piece ps ≡ true → pieces_from false (written ps) ≡ ps
read_back [] plain = refl
read_back (piece.Byte b ∷ ps) plain =
    let a = and_parts (is_plain_piece (piece.Byte b)) (list_all is_plain_piece ps) plain in
    ap (λ t. cond t (pieces_from true (written ps)) (piece.Byte b ∷ pieces_from false (written ps))) (no_percent b a.0)
    ∙ ap (λ x. piece.Byte b ∷ x) (read_back ps a.1)
read_back (piece.Field f ∷ ps) plain =
    let a = and_parts (is_plain_piece (piece.Field f)) (list_all is_plain_piece ps) plain in
    ap (λ o. behind_percent (letter f) o (pieces_from false (written ps))) (at_letter f) ∙ ap (λ x. piece.Field f ∷ x) (read_back ps a.1)

same_number : (b n : ℕ) → (b == n) ≡ true → n ≡ b
same_number b n is = grind (arith, nat_tests)

abbrev pick : (y m d h n s e : Bool) → Option Field
pick y m d h n s e =
    cond y (Some field.Year) (cond m (Some field.Month) (cond d (Some field.Day) (cond h (Some field.Hour) (cond n (Some field.Minute) (cond s (Some field.Second) (cond e (Some field.Epoch) None))))))

letter_at : (b : ℕ) (f : Field) → field_of b ≡ Some f → letter f ≡ b
letter_at b f e = by (b == 89) (b == 109) (b == 100) (b == 72) (b == 77) (b == 83) (b == 115) refl refl refl refl refl refl refl e
  where
    by : (y m d h n s e : Bool) → (b == 89) ≡ y → (b == 109) ≡ m → (b == 100) ≡ d → (b == 72) ≡ h → (b == 77) ≡ n → (b == 83) ≡ s → (b == 115) ≡ e → pick y m d h n s e ≡ Some f → letter f ≡ b
    by true m d h n s e i0 i1 i2 i3 i4 i5 i6 p = let same : field.Year ≡ f = cc in ap letter (sym same) ∙ same_number b 89 i0
    by false true d h n s e i0 i1 i2 i3 i4 i5 i6 p = let same : field.Month ≡ f = cc in ap letter (sym same) ∙ same_number b 109 i1
    by false false true h n s e i0 i1 i2 i3 i4 i5 i6 p = let same : field.Day ≡ f = cc in ap letter (sym same) ∙ same_number b 100 i2
    by false false false true n s e i0 i1 i2 i3 i4 i5 i6 p = let same : field.Hour ≡ f = cc in ap letter (sym same) ∙ same_number b 72 i3
    by false false false false true s e i0 i1 i2 i3 i4 i5 i6 p = let same : field.Minute ≡ f = cc in ap letter (sym same) ∙ same_number b 77 i4
    by false false false false false true e i0 i1 i2 i3 i4 i5 i6 p = let same : field.Second ≡ f = cc in ap letter (sym same) ∙ same_number b 83 i5
    by false false false false false false true i0 i1 i2 i3 i4 i5 i6 p = let same : field.Epoch ≡ f = cc in ap letter (sym same) ∙ same_number b 115 i6
    by false false false false false false false i0 i1 i2 i3 i4 i5 i6 p = absurd (cc)

-- what is read is written by the same bytes
written_back : (bs : List ℕ) (behind : Bool) → written (pieces_from behind bs) ≡ cond behind (37 ∷ bs) bs
written_back [] false = refl
written_back [] true = refl
written_back (b ∷ bs) false = by (b == 37) refl (written_back bs true) (written_back bs false)
  where
    by : (t : Bool) → (b == 37) ≡ t → written (pieces_from true bs) ≡ 37 ∷ bs → written (pieces_from false bs) ≡ bs → written (cond t (pieces_from true bs) (piece.Byte b ∷ pieces_from false bs)) ≡ b ∷ bs
    by true is h k = h ∙ ap (λ x. x ∷ bs) (same_number b 37 is)
    by false is h k = ap (λ x. b ∷ x) k
written_back (b ∷ bs) true = by (field_of b) refl (written_back bs false)
  where
    by : (o : Option Field) → field_of b ≡ o → written (pieces_from false bs) ≡ bs → written (behind_percent b o (pieces_from false bs)) ≡ 37 ∷ b ∷ bs
    by None is k = ap (λ x. 37 ∷ b ∷ x) k
    by (Some f) is k = ap (λ x. 37 ∷ x ∷ written (pieces_from false bs)) (letter_at b f is) ∙ ap (λ x. 37 ∷ b ∷ x) k

abbrev pub tested : List Piece → Bool
tested ps = is_format (record { pieces = ps; back = back.Now; serial = false })

abbrev given : Bool → List Piece → Result (List Piece) ConfKind
given b ps = cond b (Ok ps) (Err kind.BadFormat)

-- a word says one thing
pub one_format : (word : List ℕ) (r : Result (List Piece) ConfKind) → FormatSays word r → r ≡ format_value word
unfolding format_value
one_format word (Ok ps) w =
    let same : pieces_from false word ≡ ps = ap (pieces_from false) (sym w.bytes) ∙ read_back ps (parts_of word ps w).plain in
    sym (ap (λ xs. given (tested xs) xs) same ∙ ap (λ b. given b ps) w.format)
one_format word (Err k) w = ap Err w.0 ∙ by (tested (pieces_from false word)) refl
  where
    by : (b : Bool) → tested (pieces_from false word) ≡ b → Err kind.BadFormat ≡ given b (pieces_from false word)
    by true is = absurd (w.1 (pieces_from false word) (record { bytes = written_back word false; format = is }))
    by false is = refl

-- a format that a word says is one
pub format_meets : (word : List ℕ) (ps : List Piece) → format_value word ≡ Ok ps → tested ps ≡ true
unfolding format_value
format_meets word ps h = by (tested (pieces_from false word)) refl h
  where
    by : (b : Bool) → tested (pieces_from false word) ≡ b → given b (pieces_from false word) ≡ Ok ps → tested ps ≡ true
    by true is e = let same : pieces_from false word ≡ ps = cc in ap tested (sym same) ∙ is
    by false is e = absurd (cc)
