-- A reading, piece by piece.
use Rattle.std.proofs.Common.{◌≡◌, ⊎_elim, ℕ, ◌<◌, Bool, true, false, List, [], ◌∷◌, ◌++◌, length, refl, sym, ap, ◌∙◌, subst, arith, eqb-true, Some}
use Rattle.std.specs.Prelude.{◌≢◌, ◌↔◌, ◌==◌}
use Rattle.std.proofs.lemmas.Bool.{or_parts, or_from, or_left, or_right, or_cases}
use Rattle.lr_rules.specs.declared.rule.Field.{Field}
use Rattle.lr_rules.specs.declared.rule.Field.TheVariants as field
use Rattle.lr_rules.specs.declared.rule.Piece.{Piece}
use Rattle.lr_rules.specs.declared.rule.Piece.TheVariants as piece
use Rattle.lr_rules.specs.declared.stamp_parts.StampParts.{StampParts}
use Rattle.lr_rules.specs.StampParts.{part, with_part}
use Rattle.lr_rules.specs.Stamps.{field_text, bound, stamp_text, same_field, is_in, IsStampReading}
use Rattle.lr_stamps.specs.Asked.{are_bytes, FieldsDiffer, HasLeft}
use Rattle.lr_stamps.proofs.Fields.{is_same, itself, with_same, with_other, parts_same, IsSplit, text_split}

-- ---- what stands behind a field

bytes_in : (f : Field) (ps : List Piece) → are_bytes ps ≡ true → is_in f ps ≡ false
bytes_in f [] e = refl
bytes_in f (piece.Byte b ∷ ps) e = bytes_in f ps e
bytes_in f (piece.Field g ∷ ps) e = absurd (cc)

bytes_long : (p : StampParts) (ps : List Piece) → are_bytes ps ≡ true → length (stamp_text p ps) ≡ length ps
bytes_long p [] e = refl
bytes_long p (piece.Byte b ∷ ps) e = let n : length (stamp_text p ps) ≡ length ps = bytes_long p ps e in omega arith
bytes_long p (piece.Field g ∷ ps) e = absurd (cc)

pub once : (f : Field) (ps : List Piece) → FieldsDiffer (piece.Field f ∷ ps) → is_in f ps ≡ false
once field.Year ps a = a.0
once field.Month ps a = a.0
once field.Day ps a = a.0
once field.Hour ps a = a.0
once field.Minute ps a = a.0
once field.Second ps a = a.0
once field.Epoch ps a = bytes_in field.Epoch ps a

bytes_apart : (ps : List Piece) → are_bytes ps ≡ true → FieldsDiffer ps
bytes_apart [] e = tt
bytes_apart (piece.Byte b ∷ ps) e = bytes_apart ps e
bytes_apart (piece.Field f ∷ ps) e = absurd (cc)

pub apart_rest : (f : Field) (ps : List Piece) → FieldsDiffer (piece.Field f ∷ ps) → FieldsDiffer ps
apart_rest field.Year ps a = a.1
apart_rest field.Month ps a = a.1
apart_rest field.Day ps a = a.1
apart_rest field.Hour ps a = a.1
apart_rest field.Minute ps a = a.1
apart_rest field.Second ps a = a.1
apart_rest field.Epoch ps a = bytes_apart ps a

-- so many bytes are left
pub left_text : (f : Field) (ps : List Piece) (p : StampParts) → FieldsDiffer (piece.Field f ∷ ps) → HasLeft f (length ps) (stamp_text p ps)
left_text field.Epoch ps p a = bytes_long p ps a
left_text field.Year ps p a = tt
left_text field.Month ps p a = tt
left_text field.Day ps p a = tt
left_text field.Hour ps p a = tt
left_text field.Minute ps p a = tt
left_text field.Second ps p a = tt

-- ---- no piece

pub none_read : (before p : StampParts) (ps : List Piece) (w : List ℕ) → ps ≡ [] → w ≡ [] → (Some before ≡ Some p) ↔ IsStampReading ps before p w
none_read before p ps w e f = (
  λ s. let same : before ≡ p = cc in subst (λ (qs : List Piece). IsStampReading qs before p w) (sym e) (record { text = f; small = λ g i. absurd (cc); rest = λ g i. ap (λ (q : StampParts). part q g) (sym same) }),
  λ (r : IsStampReading ps before p w). let r' : IsStampReading [] before p w = subst (λ (qs : List Piece). IsStampReading qs before p w) e r in ap Some (sym (parts_same p before (λ g. r'.rest g refl))),
)

-- ---- a byte

pub byte_read : (before p : StampParts) (b : ℕ) (ps qs : List Piece) (w v : List ℕ) → qs ≡ piece.Byte b ∷ ps → w ≡ b ∷ v → IsStampReading ps before p v ↔ IsStampReading qs before p w
byte_read before p b ps qs w v e f = (
  λ r. subst (λ (os : List Piece). IsStampReading os before p w) (sym e) (record { text = f ∙ ap (λ u. b ∷ u) r.text; small = r.small; rest = r.rest }),
  λ (r : IsStampReading qs before p w). let r' : IsStampReading (piece.Byte b ∷ ps) before p w = subst (λ (os : List Piece). IsStampReading os before p w) e r in record { text = behind b b v (stamp_text p ps) (sym f ∙ r'.text); small = r'.small; rest = r'.rest },
)
  where
    behind : (x y : ℕ) (xs ys : List ℕ) → x ∷ xs ≡ y ∷ ys → xs ≡ ys
    behind x y xs ys e = cc

-- ---- a field

field_to : (before p : StampParts) (f : Field) (v : ℕ) (ps : List Piece) (w more : List ℕ) → FieldsDiffer (piece.Field f ∷ ps) → v < bound f → w ≡ field_text f v ++ more → IsStampReading ps (with_part before f v) p more → IsStampReading (piece.Field f ∷ ps) before p w
field_to before p f v ps w more a low e r = record { text = text; small = small; rest = rest }
  where
    value : part p f ≡ v
    value = r.rest f (once f ps a) ∙ with_same before f v

    text : w ≡ field_text f (part p f) ++ stamp_text p ps
    text = e ∙ (ap (λ u. field_text f v ++ u) r.text ∙ ap (λ n. field_text f n ++ stamp_text p ps) (sym value))

    small : (g : Field) → is_in g (piece.Field f ∷ ps) ≡ true → part p g < bound g
    small g i = ⊎_elim (λ s. subst (λ (h : Field). part p h < bound h) (sym (is_same g f s)) (subst (λ (n : ℕ). n < bound f) (sym value) low)) (λ s. r.small g s) (or_cases (same_field g f) (is_in g ps) i)

    rest : (g : Field) → is_in g (piece.Field f ∷ ps) ≡ false → part p g ≡ part before g
    rest g i = let n = or_parts (same_field g f) (is_in g ps) i in r.rest g n.1 ∙ with_other before f v g n.0

pub field_from : (before p : StampParts) (f : Field) (v : ℕ) (ps : List Piece) (w more : List ℕ) → FieldsDiffer (piece.Field f ∷ ps) → v < bound f → w ≡ field_text f v ++ more → HasLeft f (length ps) more → IsStampReading (piece.Field f ∷ ps) before p w → IsStampReading ps (with_part before f v) p more
field_from before p f v ps w more a low e left r = record { text = sym split.rest; small = λ g i. r.small g (or_right (same_field g f) (is_in g ps) i); rest = rest }
  where
    split : IsSplit (part p f) v (stamp_text p ps) more
    split = text_split f (part p f) v (length ps) (stamp_text p ps) more (r.small f (or_left (same_field f f) (is_in f ps) (itself f))) low (left_text f ps p a) left (sym r.text ∙ e)

    by : (g : Field) (b : Bool) → same_field g f ≡ b → is_in g ps ≡ false → part p g ≡ part (with_part before f v) g
    by g true s i = subst (λ (h : Field). part p h ≡ part (with_part before f v) h) (sym (is_same g f s)) (split.value ∙ sym (with_same before f v))
    by g false s i = r.rest g (or_from (same_field g f) (is_in g ps) s i) ∙ sym (with_other before f v g s)

    rest : (g : Field) → is_in g ps ≡ false → part p g ≡ part (with_part before f v) g
    rest g i = by g (same_field g f) refl i

pub field_read : (before p : StampParts) (f : Field) (v : ℕ) (ps qs : List Piece) (w more : List ℕ) → qs ≡ piece.Field f ∷ ps → FieldsDiffer qs → (v < bound f) × (w ≡ field_text f v ++ more) × HasLeft f (length ps) more
    → IsStampReading ps (with_part before f v) p more ↔ IsStampReading qs before p w
field_read before p f v ps qs w more e a h = (
  λ r. subst (λ (os : List Piece). IsStampReading os before p w) (sym e) (field_to before p f v ps w more (subst FieldsDiffer e a) h.0 h.1 r),
  λ r. field_from before p f v ps w more (subst FieldsDiffer e a) h.0 h.1 h.2 (subst (λ (os : List Piece). IsStampReading os before p w) e r),
)

pub no_field : (before p : StampParts) (f : Field) (ps qs : List Piece) (w : List ℕ) → qs ≡ piece.Field f ∷ ps → FieldsDiffer qs → ((n : ℕ) (rest : List ℕ) → n < bound f → HasLeft f (length ps) rest → w ≢ field_text f n ++ rest) → IsStampReading qs before p w → ⊥
no_field before p f ps qs w e a none r =
    let r' : IsStampReading (piece.Field f ∷ ps) before p w = subst (λ (os : List Piece). IsStampReading os before p w) e r in
    none (part p f) (stamp_text p ps) (r'.small f (or_left (same_field f f) (is_in f ps) (itself f))) (left_text f ps p (subst FieldsDiffer e a)) r'.text

pub empty_is : (w : List ℕ) → true ≡ (length w == 0) → w ≡ []
empty_is [] e = refl
empty_is (x ∷ w) e = absurd (let h : length (x ∷ w) ≡ 0 = eqb-true (length (x ∷ w)) 0 (sym e) in omega arith)

-- ---- bytes have one reading

pub one_reading : (before p q : StampParts) (ps : List Piece) (w : List ℕ) → FieldsDiffer ps → IsStampReading ps before p w → IsStampReading ps before q w → p ≡ q
one_reading before p q [] w a r s = parts_same p before (λ g. r.rest g refl) ∙ sym (parts_same q before (λ g. s.rest g refl))
one_reading before p q (piece.Byte b ∷ ps) w a r s =
    one_reading before p q ps (stamp_text p ps) a
    ((byte_read before p b ps (piece.Byte b ∷ ps) w (stamp_text p ps) refl r.text).1 r)
    ((byte_read before q b ps (piece.Byte b ∷ ps) w (stamp_text p ps) refl r.text).1 s)
one_reading before p q (piece.Field f ∷ ps) w a r s =
    one_reading (with_part before f (part p f)) p q ps (stamp_text p ps) (apart_rest f ps a)
    (field_from before p f (part p f) ps w (stamp_text p ps) a low r.text (left_text f ps p a) r)
    (field_from before q f (part p f) ps w (stamp_text p ps) a low r.text (left_text f ps p a) s)
  where
    low : part p f < bound f
    low = r.small f (or_left (same_field f f) (is_in f ps) (itself f))
