-- What pieces are written by is read in one way.
use Rattle.std.proofs.Common.{◌≡◌, ℕ, ◌==◌, true, ◌&&◌, List, [], ◌∷◌, ◌++◌, Option, Some, refl, ap, sym, ◌∙◌, if◌then◌else◌, arith, append_assoc}
use Rattle.std.specs.List.{list_all}
use Rattle.std.proofs.lemmas.Bool.{and_parts, and_from}
use Rattle.std.proofs.lemmas.List.Folds.{list_all-append}
use Rattle.std.proofs.lemmas.Bool.Decides.{nat_tests}
use Rattle.lr_rules.specs.declared.rule.Field.{Field}
use Rattle.lr_rules.specs.declared.rule.Field.TheVariants as field
use Rattle.lr_rules.specs.declared.rule.Piece.{Piece}
use Rattle.lr_rules.specs.declared.rule.Piece.TheVariants as piece
use Rattle.lr_rules.specs.Limits.{letter, written, is_plain_piece}
use Rattle.lr_words.specs.Formats.{BeginsWith, BeginsWithNone}

-- ---- letters

-- the field of a letter
field_at : ℕ → Option Field
field_at b =
    if b == 89 then Some field.Year
    else if b == 109 then Some field.Month
    else if b == 100 then Some field.Day
    else if b == 72 then Some field.Hour
    else if b == 77 then Some field.Minute
    else if b == 83 then Some field.Second
    else Some field.Epoch

at_letter : (f : Field) → field_at (letter f) ≡ Some f
unfolding field_at
at_letter field.Year = refl
at_letter field.Month = refl
at_letter field.Day = refl
at_letter field.Hour = refl
at_letter field.Minute = refl
at_letter field.Second = refl
at_letter field.Epoch = refl

same_letter : (f g : Field) → letter f ≡ letter g → f ≡ g
same_letter f g e = let h : Some f ≡ Some g = sym (at_letter f) ∙ (ap field_at e ∙ at_letter g) in cc

-- ---- pieces

no_percent : (b : ℕ) → is_plain_piece (piece.Byte b) ≡ true → b ≡ 37 → ⊥
no_percent b h e = grind (arith, nat_tests)

pub written-cons : (p : Piece) (ps : List Piece) → written (p ∷ ps) ≡ written (p ∷ []) ++ written ps
written-cons (piece.Byte b) ps = refl
written-cons (piece.Field f) ps = refl

pub written-append : (ps qs : List Piece) → written (ps ++ qs) ≡ written ps ++ written qs
written-append [] qs = refl
written-append (piece.Byte b ∷ ps) qs = ap (λ x. b ∷ x) (written-append ps qs)
written-append (piece.Field f ∷ ps) qs = ap (λ x. 37 ∷ letter f ∷ x) (written-append ps qs)

-- bytes begin with one piece, and one thing stands behind it
pub one_way : (p q : Piece) (xs ys : List ℕ) → is_plain_piece p ≡ true → is_plain_piece q ≡ true → written (p ∷ []) ++ xs ≡ written (q ∷ []) ++ ys → (p ≡ q) × (xs ≡ ys)
one_way (piece.Byte a) (piece.Byte b) xs ys pa pb e = let h : a ≡ b = cc in (ap piece.Byte h, cc)
one_way (piece.Byte a) (piece.Field g) xs ys pa pb e = let h : a ≡ 37 = cc in absurd (no_percent a pa h)
one_way (piece.Field f) (piece.Byte b) xs ys pa pb e = let h : b ≡ 37 = cc in absurd (no_percent b pb h)
one_way (piece.Field f) (piece.Field g) xs ys pa pb e = let h : letter f ≡ letter g = cc in (ap piece.Field (same_letter f g h), cc)

-- pieces are written by some bytes
pub none_empty : (p : Piece) (xs : List ℕ) → [] ≡ written (p ∷ []) ++ xs → ⊥
none_empty (piece.Byte b) xs e = cc
none_empty (piece.Field f) xs e = cc

-- one list of pieces is written by the same bytes
pub one_list : (ps qs : List Piece) → list_all is_plain_piece ps ≡ true → list_all is_plain_piece qs ≡ true → written ps ≡ written qs → ps ≡ qs
one_list [] [] pa pb e = refl
one_list [] (q ∷ qs) pa pb e = absurd (none_empty q (written qs) (e ∙ written-cons q qs))
one_list (p ∷ ps) [] pa pb e = absurd (none_empty p (written ps) (sym e ∙ written-cons p ps))
one_list (p ∷ ps) (q ∷ qs) pa pb e =
    let a = and_parts (is_plain_piece p) (list_all is_plain_piece ps) pa in
    let b = and_parts (is_plain_piece q) (list_all is_plain_piece qs) pb in
    let w = one_way p q (written ps) (written qs) a.0 b.0 (sym (written-cons p ps) ∙ (e ∙ written-cons q qs)) in
    ap (λ x. x ∷ ps) w.0 ∙ ap (λ xs. q ∷ xs) (one_list ps qs a.1 b.1 w.1)

-- ---- what is read so far

-- The pieces were read, and these bytes are left: every list that the word writes goes on from them.
pub record ReadTo (word : List ℕ) (pieces : List Piece) (left : List ℕ) : Type 0 where
  pub is : written pieces ++ left ≡ word
  pub plain : list_all is_plain_piece pieces ≡ true
  pub every : (qs : List Piece) → written qs ≡ word → list_all is_plain_piece qs ≡ true → (rest : List Piece) × (written rest ≡ left) × (list_all is_plain_piece rest ≡ true)

pub one_more : (word : List ℕ) (pieces : List Piece) (left : List ℕ) (p : Piece) (behind : List ℕ) → ReadTo word pieces left → BeginsWith left p behind → ReadTo word (pieces ++ p ∷ []) behind
one_more word pieces left p behind h w = record {
  is = ap (λ xs. xs ++ behind) (written-append pieces (p ∷ [])) ∙ append_assoc (written pieces) (written (p ∷ [])) behind ∙ ap (λ xs. written pieces ++ xs) (sym w.is) ∙ h.is;
  plain = list_all-append is_plain_piece pieces (p ∷ []) ∙ and_from (list_all is_plain_piece pieces) (is_plain_piece p && true) h.plain (and_from (is_plain_piece p) true w.plain refl);
  every = λ qs e plain. let r = h.every qs e plain in behind_it r.0 r.1 r.2;
}
  where
    behind_it : (rest : List Piece) → written rest ≡ left → list_all is_plain_piece rest ≡ true → (rs : List Piece) × (written rs ≡ behind) × (list_all is_plain_piece rs ≡ true)
    behind_it [] e plain = absurd (none_empty p behind (e ∙ w.is))
    behind_it (q ∷ rs) e plain =
        let parts = and_parts (is_plain_piece q) (list_all is_plain_piece rs) plain in
        let same = one_way p q behind (written rs) w.plain parts.0 (sym w.is ∙ (sym e ∙ written-cons q rs)) in
        (rs, sym same.1, parts.1)

-- nothing is read from here on
pub refused : (word : List ℕ) (pieces : List Piece) (left : List ℕ) → ReadTo word pieces left → BeginsWithNone left → (left ≡ [] → ⊥) → (qs : List Piece) → written qs ≡ word → list_all is_plain_piece qs ≡ true → ⊥
refused word pieces left h none some qs e plain = let r = h.every qs e plain in by r.0 r.1 r.2
  where
    by : (rest : List Piece) → written rest ≡ left → list_all is_plain_piece rest ≡ true → ⊥
    by [] e plain = some (sym e)
    by (q ∷ rs) e plain = none q (written rs) (record { is = sym e ∙ written-cons q rs; plain = (and_parts (is_plain_piece q) (list_all is_plain_piece rs) plain).0 })
