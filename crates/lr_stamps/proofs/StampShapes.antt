-- A dated member has a member's shape.
use Rattle.std.proofs.Common.{◌≡◌, ◌∙◌, inl, inr, ℕ, zero, suc, ◌+◌, ◌%◌, ◌/◌, ◌≤◌, ◌<◌, true, refl, sym, ap, subst, arith, append_assoc, append-nil, List, [], ◌∷◌, ◌++◌, Some, ℤ}
use Rattle.std.specs.Prelude.{decimal}
use Rattle.std.proofs.lemmas.List.Elements.{All-cons, All-append}
use Rattle.std.proofs.lemmas.Bool.{or_left, or_right}
use Rattle.lr_rules.specs.declared.path.Path.{Path}
use Rattle.lr_rules.specs.declared.stamp_parts.StampParts.{StampParts}
use Rattle.lr_rules.specs.declared.rule.Field.{Field}
use Rattle.lr_rules.specs.declared.rule.Field.TheVariants as field
use Rattle.lr_rules.specs.declared.rule.Format.{Format}
use Rattle.lr_rules.specs.declared.rule.Naming.{Naming}
use Rattle.lr_rules.specs.declared.rule.Piece.{Piece}
use Rattle.lr_rules.specs.declared.rule.Piece.TheVariants as piece
use Rattle.lr_rules.specs.Names.{AreDigits, IsFieldShape, IsStampShape, number_pieces, IsMiddleShape, HasMemberShape}
use Rattle.lr_rules.specs.StampParts.{part}
use Rattle.lr_rules.specs.Stamps.{two, field_text, bound, stamp_text, same_field, is_in}
use Rattle.lr_rules.specs.Dated.{serial_text, IsSerial, IsNumberedStamp, IsDatedAt}
use Rattle.lr_rules.proofs.Digits.{one_digit, decimal_run, IsDigit}
use Rattle.lr_stamps.proofs.Fields.{itself}

two_digits : (n : ℕ) → n < 100 → AreDigits (two n)
two_digits n lt = All-cons IsDigit (48 + n / 10) ((48 + n % 10) ∷ []) (omega arith, omega arith) (one_digit (n % 10) (omega arith))

text_shape : (f : Field) (n : ℕ) → n < bound f → IsFieldShape f (field_text f n)
text_shape field.Year n lt = (refl, All-append IsDigit (two (n / 100)) (two (n % 100)) (two_digits (n / 100) (omega arith)) (two_digits (n % 100) (omega arith)))
text_shape field.Epoch n lt = decimal_run n (omega arith)
text_shape field.Month n lt = (refl, two_digits n lt)
text_shape field.Day n lt = (refl, two_digits n lt)
text_shape field.Hour n lt = (refl, two_digits n lt)
text_shape field.Minute n lt = (refl, two_digits n lt)
text_shape field.Second n lt = (refl, two_digits n lt)

stamp_shape : (p : StampParts) (ps : List Piece) → ((f : Field) → is_in f ps ≡ true → part p f < bound f) → IsStampShape ps (stamp_text p ps)
stamp_shape p [] h = refl
stamp_shape p (piece.Byte b ∷ ps) h = (stamp_text p ps, refl, stamp_shape p ps h)
stamp_shape p (piece.Field f ∷ ps) h = (field_text f (part p f), stamp_text p ps, refl, text_shape f (part p f) (h f (or_left (same_field f f) (is_in f ps) (itself f))), stamp_shape p ps (λ g i. h g (or_right (same_field g f) (is_in g ps) i)))

pieces_shape : (ps qs : List Piece) (w v : List ℕ) → IsStampShape ps w → IsStampShape qs v → IsStampShape (ps ++ qs) (w ++ v)
pieces_shape [] qs w v h k = subst (λ (u : List ℕ). IsStampShape qs (u ++ v)) (sym h) k
pieces_shape (piece.Byte b ∷ ps) qs w v h k = (h.0 ++ v, ap (λ (u : List ℕ). u ++ v) h.1, pieces_shape ps qs h.0 v h.2 k)
pieces_shape (piece.Field f ∷ ps) qs w v h k = (h.0, h.1 ++ v, ap (λ (u : List ℕ). u ++ v) h.2 ∙ append_assoc h.0 h.1 v, h.3, pieces_shape ps qs h.1 v h.4 k)

-- a stamp has its format's shape, with the serial number behind it or without
pub numbered_shape : (f : Format) (t : ℤ) (k : ℕ) (w : List ℕ) → IsNumberedStamp f t k w → IsMiddleShape (Some f) w
numbered_shape f t k w n = go k n.numbered n.text
  where
    stamp : IsStampShape f.pieces n.stamp
    stamp = subst (IsStampShape f.pieces) (sym n.is.reading.text) (stamp_shape n.is.parts f.pieces n.is.reading.small)

    within : (k : ℕ) → IsSerial f (suc k) → (f.serial ≡ true) × (suc k ≤ 4294967295)
    within k (inl e) = absurd (cc)
    within k (inr h) = h

    number : (k : ℕ) → suc k ≤ 4294967295 → IsStampShape number_pieces (46 ∷ decimal (suc k))
    number k le = (decimal (suc k), refl, (decimal (suc k), [], sym (append-nil (decimal (suc k))), decimal_run (suc k) (omega (arith, le)), refl))

    go : (k : ℕ) → IsSerial f k → w ≡ n.stamp ++ serial_text k → IsMiddleShape (Some f) w
    go zero s e = inl (subst (IsStampShape f.pieces) (sym (e ∙ append-nil n.stamp)) stamp)
    go (suc k) s e = let h = within k s in inr (h.0, subst (IsStampShape (f.pieces ++ number_pieces)) (sym e) (pieces_shape f.pieces number_pieces n.stamp (46 ∷ decimal (suc k)) stamp (number k h.1)))

-- a dated member has a member's shape
pub dated_shape : (n : Naming) (t : ℤ) (k : ℕ) (x : Path) → IsDatedAt n t k x → HasMemberShape n x
dated_shape n t k x m = (n.base ++ m.middle ++ n.ext, (m.middle, subst (λ d. IsMiddleShape d m.middle) (sym m.dated) (numbered_shape m.format t k m.middle m.is), refl), m.named)
