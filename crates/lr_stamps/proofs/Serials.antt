-- Stamps with serial numbers: a name has one stamp and one serial number.
use Rattle.std.proofs.Common.{◌≡◌, ◌⊎◌, inl, inr, ⊎_elim, ℕ, zero, suc, ◌<◌, ◌≤◌, ◌+◌, Bool, true, false, ◌||◌, List, [], ◌∷◌, ◌++◌, length, refl, sym, ap, ◌∙◌, subst, arith, append_assoc, append-nil, length-append, nat_eq, eqb-true, Option, Some, None, ℤ}
use Rattle.std.specs.Prelude.{◌↔◌, ◌≢◌, decimal}
use Rattle.std.specs.List.{list_any}
use Rattle.std.proofs.lemmas.Bool.{or_from}
use Rattle.std.proofs.lemmas.Fmt.{decimal_injective}
use Rattle.std.proofs.lemmas.List.Elements.{All-head, All-tail, All-cons, All-append}
use Rattle.lr_rules.specs.declared.rule.Field.TheVariants as field
use Rattle.lr_rules.specs.declared.rule.Format.{Format}
use Rattle.lr_rules.specs.declared.rule.Piece.{Piece}
use Rattle.lr_rules.specs.declared.rule.Piece.TheVariants as piece
use Rattle.lr_rules.specs.declared.stamp_parts.StampParts.{StampParts}
use Rattle.lr_rules.specs.Names.{AreDigits}
use Rattle.lr_rules.specs.StampParts.{least}
use Rattle.lr_rules.specs.Stamps.{stamp_text, is_in}
use Rattle.lr_stamps.specs.Asked.{are_bytes, FieldsDiffer}
use Rattle.lr_rules.specs.Moments.{IsStamp, seconds_by}
use Rattle.lr_rules.specs.Dated.{serial_text, IsSerial, IsNumberedStamp}
use Rattle.lr_rules.proofs.Digits.{decimal_run, IsDigit}
use Rattle.lr_rules.proofs.Heads.{heads, tails}
use Rattle.lr_stamps.specs.Serials.{is_dot, IsCounted}
use Rattle.lr_stamps.proofs.Readings.{one_reading}

-- ---- no dot among digits

digit_no_dot : (d : ℕ) → IsDigit d → is_dot d ≡ false
digit_no_dot d h = go (nat_eq d 46) refl
  where
    go : (b : Bool) → nat_eq d 46 ≡ b → b ≡ false
    go true e = absurd (let f : d ≡ 46 = eqb-true d 46 e in omega (arith, h.0, f))
    go false e = refl

pub digits_no_dot : (ds : List ℕ) → AreDigits ds → list_any is_dot ds ≡ false
digits_no_dot [] h = refl
digits_no_dot (d ∷ ds) h = or_from (is_dot d) (list_any is_dot ds) (digit_no_dot d (All-head IsDigit d ds h)) (digits_no_dot ds (All-tail IsDigit d ds h))

-- ---- the last dot

pub dot_within : (front end : List ℕ) → list_any is_dot (front ++ 46 ∷ end) ≡ true
dot_within [] end = refl
dot_within (x ∷ front) end = by (is_dot x) (dot_within front end)
  where
    by : (b : Bool) {c : Bool} → c ≡ true → (b || c) ≡ true
    by true e = refl
    by false e = e

no_dot_within : (bytes front end : List ℕ) → list_any is_dot bytes ≡ false → bytes ≡ front ++ 46 ∷ end → ⊥
no_dot_within bytes front end none e = absurd (let d : list_any is_dot (front ++ 46 ∷ end) ≡ true = dot_within front end in let f : list_any is_dot (front ++ 46 ∷ end) ≡ false = subst (λ (bs : List ℕ). list_any is_dot bs ≡ false) e none in cc)

pub record IsOneSplit (a b c d : List ℕ) : Type 0 where
  pub fronts : a ≡ c
  pub ends : b ≡ d

-- what has its last dot at one place has it at no other
pub one_split : (a b c d : List ℕ) → list_any is_dot b ≡ false → list_any is_dot d ≡ false → a ++ 46 ∷ b ≡ c ++ 46 ∷ d → IsOneSplit a b c d
one_split [] b [] d h k e = record { fronts = refl; ends = tails 46 46 b d e }
one_split [] b (y ∷ c) d h k e = absurd (no_dot_within b c d h (tails 46 y b (c ++ 46 ∷ d) e))
one_split (x ∷ a) b [] d h k e = absurd (no_dot_within d a b k (sym (tails x 46 (a ++ 46 ∷ b) d e)))
one_split (x ∷ a) b (y ∷ c) d h k e =
    let s = one_split a b c d h k (tails x y (a ++ 46 ∷ b) (c ++ 46 ∷ d) e) in
    record { fronts = ap (λ (h : ℕ). h ∷ a) (heads x y (a ++ 46 ∷ b) (c ++ 46 ∷ d) e) ∙ ap (λ (t : List ℕ). y ∷ t) s.fronts; ends = s.ends }

-- ---- no bytes are a stamp and a stamp with a serial number

-- digits moved past the same bytes: the dot would be a digit
past : (ds bs more : List ℕ) → AreDigits ds → ds ++ bs ≡ bs ++ 46 ∷ more → ⊥
past [] bs more h e = absurd (let l : length (bs ++ 46 ∷ more) ≡ length bs + length (46 ∷ more) = length-append bs (46 ∷ more) in let m : length bs ≡ length (bs ++ 46 ∷ more) = ap length e in omega (arith, l, m))
past (d ∷ ds) [] more h e = absurd (let i = All-head IsDigit d ds h in let f : d ≡ 46 = heads d 46 (ds ++ []) more e in omega (arith, i.0, f))
past (d ∷ ds) (b ∷ bs) more h e = past (ds ++ b ∷ []) bs more digits (append_assoc ds (b ∷ []) bs ∙ tails d b (ds ++ b ∷ bs) (bs ++ 46 ∷ more) e)
  where
    digits : AreDigits (ds ++ b ∷ [])
    digits = All-append IsDigit ds (b ∷ []) (All-tail IsDigit d ds h) (All-cons IsDigit b [] (subst IsDigit (heads d b (ds ++ b ∷ bs) (bs ++ 46 ∷ more) e) (All-head IsDigit d ds h)) (λ k x le. absurd (omega arith)))

-- two numbers before the same bytes
numbers_apart : (ds es bs more : List ℕ) → AreDigits ds → ds ++ bs ≡ es ++ (bs ++ 46 ∷ more) → ⊥
numbers_apart ds [] bs more h e = past ds bs more h e
numbers_apart [] (x ∷ es) bs more h e = absurd (
    let l : length (es ++ (bs ++ 46 ∷ more)) ≡ length es + length (bs ++ 46 ∷ more) = length-append es (bs ++ 46 ∷ more) in
    let m : length (bs ++ 46 ∷ more) ≡ length bs + length (46 ∷ more) = length-append bs (46 ∷ more) in
    let n : length bs ≡ suc (length (es ++ (bs ++ 46 ∷ more))) = ap length e in omega (arith, l, m, n))
numbers_apart (d ∷ ds) (x ∷ es) bs more h e = numbers_apart ds es bs more (All-tail IsDigit d ds h) (tails d x (ds ++ bs) (es ++ (bs ++ 46 ∷ more)) e)

bytes_same : (p q : StampParts) (ps : List Piece) → are_bytes ps ≡ true → stamp_text p ps ≡ stamp_text q ps
bytes_same p q [] e = refl
bytes_same p q (piece.Byte b ∷ ps) e = ap (λ (t : List ℕ). b ∷ t) (bytes_same p q ps e)
bytes_same p q (piece.Field f ∷ ps) e = absurd (cc)

-- two digits before more
two_off : (a b c d : ℕ) (xs ys : List ℕ) → a ∷ b ∷ xs ≡ c ∷ d ∷ ys → xs ≡ ys
two_off a b c d xs ys e = cc

four_off : (a b c d e f g h : ℕ) (xs ys : List ℕ) → a ∷ b ∷ c ∷ d ∷ xs ≡ e ∷ f ∷ g ∷ h ∷ ys → xs ≡ ys
four_off a b c d e f g h xs ys i = cc

-- The same pieces with other values, and a dot behind them: never the same bytes.
texts_apart : (p q : StampParts) (ps : List Piece) (more : List ℕ) → FieldsDiffer ps → (is_in field.Epoch ps ≡ true → p.epoch < 1000000000000) → stamp_text p ps ≡ stamp_text q ps ++ 46 ∷ more → ⊥
texts_apart p q [] more a s e = absurd (cc)
texts_apart p q (piece.Byte b ∷ ps) more a s e = texts_apart p q ps more a s (tails b b (stamp_text p ps) (stamp_text q ps ++ 46 ∷ more) e)
texts_apart p q (piece.Field field.Year ∷ ps) more a s e = texts_apart p q ps more a.1 s (four_off _ _ _ _ _ _ _ _ (stamp_text p ps) (stamp_text q ps ++ 46 ∷ more) e)
texts_apart p q (piece.Field field.Month ∷ ps) more a s e = texts_apart p q ps more a.1 s (two_off _ _ _ _ (stamp_text p ps) (stamp_text q ps ++ 46 ∷ more) e)
texts_apart p q (piece.Field field.Day ∷ ps) more a s e = texts_apart p q ps more a.1 s (two_off _ _ _ _ (stamp_text p ps) (stamp_text q ps ++ 46 ∷ more) e)
texts_apart p q (piece.Field field.Hour ∷ ps) more a s e = texts_apart p q ps more a.1 s (two_off _ _ _ _ (stamp_text p ps) (stamp_text q ps ++ 46 ∷ more) e)
texts_apart p q (piece.Field field.Minute ∷ ps) more a s e = texts_apart p q ps more a.1 s (two_off _ _ _ _ (stamp_text p ps) (stamp_text q ps ++ 46 ∷ more) e)
texts_apart p q (piece.Field field.Second ∷ ps) more a s e = texts_apart p q ps more a.1 s (two_off _ _ _ _ (stamp_text p ps) (stamp_text q ps ++ 46 ∷ more) e)
texts_apart p q (piece.Field field.Epoch ∷ ps) more a s e =
    numbers_apart (decimal p.epoch) (decimal q.epoch) (stamp_text q ps) more (decimal_run p.epoch (omega (arith, s refl))).1
    (ap (λ (t : List ℕ). decimal p.epoch ++ t) (bytes_same q p ps a) ∙ (e ∙ append_assoc (decimal q.epoch) (stamp_text q ps) (46 ∷ more)))

pub not_both : (ps : List Piece) (t u : ℤ) (k : ℕ) (bytes : List ℕ) → FieldsDiffer ps → IsStamp ps t bytes → IsCounted ps u k bytes → ⊥
not_both ps t u k bytes a s c = texts_apart s.parts c.is.parts ps (decimal k) a (λ i. s.reading.small field.Epoch i)
    (sym s.reading.text ∙ (c.text ∙ ap (λ (b : List ℕ). b ++ 46 ∷ decimal k) c.is.reading.text))

-- ---- bytes have one stamp and one serial number

pub one_stamp : (ps : List Piece) (t u : ℤ) (w : List ℕ) → FieldsDiffer ps → IsStamp ps t w → IsStamp ps u w → t ≡ u
one_stamp ps t u w a r s = r.is ∙ (ap (seconds_by ps) (one_reading least r.parts s.parts ps w a r.reading s.reading) ∙ sym s.is)

pub one_counted : (ps : List Piece) (t u : ℤ) (k l : ℕ) (w : List ℕ) → FieldsDiffer ps → IsCounted ps t k w → IsCounted ps u l w → (t ≡ u) × (k ≡ l)
one_counted ps t u k l w a r s = (
  one_stamp ps t u r.stamp a r.is (subst (IsStamp ps u) (sym split.fronts) s.is),
  decimal_injective k l (omega (arith, r.within)) (omega (arith, s.within)) split.ends,
)
  where
    no_dot : (k : ℕ) → k ≤ 4294967295 → list_any is_dot (decimal k) ≡ false
    no_dot k le = digits_no_dot (decimal k) (decimal_run k (omega (arith, le))).1

    split : IsOneSplit r.stamp (decimal k) s.stamp (decimal l)
    split = one_split r.stamp (decimal k) s.stamp (decimal l) (no_dot k r.within) (no_dot l s.within) (sym r.text ∙ s.text)

-- ---- by the serial number: none, or one above 0

pub numbered_or : (f : Format) (t : ℤ) (k : ℕ) (w : List ℕ) → IsNumberedStamp f t k w → ((k ≡ 0) × IsStamp f.pieces t w) ⊎ ((f.serial ≡ true) × IsCounted f.pieces t k w)
numbered_or f t k w n = go k n.numbered n.text
  where
    within : (k : ℕ) → IsSerial f (suc k) → (f.serial ≡ true) × (suc k ≤ 4294967295)
    within k (inl e) = absurd (cc)
    within k (inr h) = h

    go : (k : ℕ) → IsSerial f k → w ≡ n.stamp ++ serial_text k → ((k ≡ 0) × IsStamp f.pieces t w) ⊎ ((f.serial ≡ true) × IsCounted f.pieces t k w)
    go zero s e = inl (refl, subst (IsStamp f.pieces t) (sym (e ∙ append-nil n.stamp)) n.is)
    go (suc k) s e = let h = within k s in inr (h.0, record { stamp = n.stamp; is = n.is; above = omega arith; within = h.1; text = e })

pub of_none : (f : Format) (t : ℤ) (w : List ℕ) → IsStamp f.pieces t w → IsNumberedStamp f t 0 w
of_none f t w s = record { stamp = w; is = s; numbered = inl refl; text = sym (append-nil w) }

pub of_counted : (f : Format) (t : ℤ) (k : ℕ) (w : List ℕ) → f.serial ≡ true → IsCounted f.pieces t k w → IsNumberedStamp f t k w
of_counted f t zero w s c = absurd (omega (arith, c.above))
of_counted f t (suc k) w s c = record { stamp = c.stamp; is = c.is; numbered = inr (s, c.within); text = c.text }

pub one_numbered : (f : Format) (t u : ℤ) (k l : ℕ) (w : List ℕ) → FieldsDiffer f.pieces → IsNumberedStamp f t k w → IsNumberedStamp f u l w → (t ≡ u) × (k ≡ l)
one_numbered f t u k l w a x y = go (numbered_or f t k w x) (numbered_or f u l w y)
  where
    go : ((k ≡ 0) × IsStamp f.pieces t w) ⊎ ((f.serial ≡ true) × IsCounted f.pieces t k w) → ((l ≡ 0) × IsStamp f.pieces u w) ⊎ ((f.serial ≡ true) × IsCounted f.pieces u l w) → (t ≡ u) × (k ≡ l)
    go (inl p) (inl q) = (one_stamp f.pieces t u w a p.1 q.1, p.0 ∙ sym q.0)
    go (inl p) (inr q) = absurd (not_both f.pieces t u l w a p.1 q.1)
    go (inr p) (inl q) = absurd (not_both f.pieces u t k w a q.1 p.1)
    go (inr p) (inr q) = one_counted f.pieces t u k l w a p.1 q.1

-- ---- what the reading gives

abbrev pub Stamped : Type 0
Stamped = ℤ × ℕ

abbrev pub Same : Option Stamped → ℤ → ℕ → Type 0
Same r t k = ◌≡◌ {A = Option Stamped} r (Some (t, k))

some_pair : (t u : ℤ) (k l : ℕ) → Same (Some (t, k)) u l → (t ≡ u) × (k ≡ l)
some_pair t u k l e = (ap (λ (x : Stamped). x.0) (same (t, k) (u, l) e), ap (λ (x : Stamped). x.1) (same (t, k) (u, l) e))
  where
    same : (x y : Stamped) → ◌≡◌ {A = Option Stamped} (Some x) (Some y) → x ≡ y
    same x y e = cc

pair_some : (t u : ℤ) (k l : ℕ) → t ≡ u → k ≡ l → Same (Some (t, k)) u l
pair_some t u k l e f = ap (λ (s : ℤ). some (s, k)) e ∙ ap (λ (j : ℕ). some (u, j)) f
  where
    some : Stamped → Option Stamped
    some x = Some x

none_pair : {X : Type 0} (u : ℤ) (l : ℕ) → Same None u l → X
none_pair u l e = absurd (cc)

-- the one split of it that has a serial number behind the dot
split_of : (ps : List Piece) (w a b : List ℕ) (u : ℤ) (l : ℕ) → (w ≡ a ++ 46 ∷ b) × (list_any is_dot b ≡ false) → (c : IsCounted ps u l w) → IsOneSplit a b c.stamp (decimal l)
split_of ps w a b u l h c = one_split a b c.stamp (decimal l) h.1 (digits_no_dot (decimal l) (decimal_run l (omega (arith, c.within))).1) (sym h.0 ∙ c.text)

-- no number behind the dot
pub other_digits : (ps : List Piece) (w a b : List ℕ) → (w ≡ a ++ 46 ∷ b) × (list_any is_dot b ≡ false) → ((serial : ℕ) → 0 < serial → serial ≤ 4294967295 → b ≢ decimal serial) → (u : ℤ) (l : ℕ) → Same None u l ↔ IsCounted ps u l w
other_digits ps w a b h none u l = (λ e. none_pair u l e, λ c. absurd (none l c.above c.within (split_of ps w a b u l h c).ends))

-- no stamp before it
pub other_stamp : (ps : List Piece) (w a b : List ℕ) (r : Option ℤ) → (w ≡ a ++ 46 ∷ b) × (list_any is_dot b ≡ false) → ((t : ℤ) → (r ≡ Some t) ↔ IsStamp ps t a) → r ≡ None → (u : ℤ) (l : ℕ) → Same None u l ↔ IsCounted ps u l w
other_stamp ps w a b r h reads none u l = (
  λ e. none_pair u l e,
  λ c. absurd (let e : r ≡ Some u = (reads u).1 (subst (IsStamp ps u) (sym (split_of ps w a b u l h c).fronts) c.is) in cc),
)

-- both
pub both_counted : (ps : List Piece) (w a b : List ℕ) (k : ℕ) (t s : ℤ) (r : Option ℤ) → FieldsDiffer ps → (w ≡ a ++ 46 ∷ b) × (list_any is_dot b ≡ false) → (0 < k) × (k ≤ 4294967295) × (b ≡ decimal k) → ((t : ℤ) → (r ≡ Some t) ↔ IsStamp ps t a) → r ≡ Some t → s ≡ t
    → (u : ℤ) (l : ℕ) → Same (Some (s, k)) u l ↔ IsCounted ps u l w
both_counted ps w a b k t s r apart h d reads is same u l = (
  λ e. let p = some_pair s u k l e in subst (λ (v : ℤ). IsCounted ps v l w) (sym same ∙ p.0) (subst (λ (j : ℕ). IsCounted ps t j w) p.1 counted),
  λ c. let p = one_counted ps t u k l w apart counted c in pair_some s u k l (same ∙ p.0) p.1,
)
  where
    counted : IsCounted ps t k w
    counted = record { stamp = a; is = (reads t).0 is; above = d.0; within = d.1; text = h.0 ∙ ap (λ (e : List ℕ). a ++ 46 ∷ e) d.2 }

-- a stamp without a serial number
pub reads_plain : (f : Format) (w : List ℕ) (t s : ℤ) (r : Option ℤ) → FieldsDiffer f.pieces → ((t : ℤ) → (r ≡ Some t) ↔ IsStamp f.pieces t w) → r ≡ Some t → s ≡ t → (u : ℤ) (l : ℕ) → Same (Some (s, 0)) u l ↔ IsNumberedStamp f u l w
reads_plain f w t s r a reads is same u l = (
  λ e. let p = some_pair s u 0 l e in subst (λ (v : ℤ). IsNumberedStamp f v l w) (sym same ∙ p.0) (subst (λ (j : ℕ). IsNumberedStamp f t j w) p.1 plain),
  λ d. let p = one_numbered f t u 0 l w a plain d in pair_some s u 0 l (same ∙ p.0) p.1,
)
  where
    plain : IsNumberedStamp f t 0 w
    plain = of_none f t w ((reads t).0 is)

no_stamp : (ps : List Piece) (w : List ℕ) (r : Option ℤ) → ((t : ℤ) → (r ≡ Some t) ↔ IsStamp ps t w) → r ≡ None → (v : ℤ) → IsStamp ps v w → ⊥
no_stamp ps w r reads none v s = absurd (let e : r ≡ Some v = (reads v).1 s in cc)

-- a stamp with one
pub reads_serial : (f : Format) (w : List ℕ) (x : Option ℤ) (r : Option Stamped) → f.serial ≡ true → ((t : ℤ) → (x ≡ Some t) ↔ IsStamp f.pieces t w) → x ≡ None → ((u : ℤ) (l : ℕ) → Same r u l ↔ IsCounted f.pieces u l w) → (u : ℤ) (l : ℕ) → Same r u l ↔ IsNumberedStamp f u l w
reads_serial f w x r s reads none h u l = (
  λ e. of_counted f u l w s ((h u l).0 e),
  λ d. ⊎_elim (λ p. absurd (no_stamp f.pieces w x reads none u p.1)) (λ p. (h u l).1 p.1) (numbered_or f u l w d),
)

-- none
pub reads_none : (f : Format) (w : List ℕ) (x : Option ℤ) → (f.serial ≡ true → ⊥) → ((t : ℤ) → (x ≡ Some t) ↔ IsStamp f.pieces t w) → x ≡ None → (u : ℤ) (l : ℕ) → Same None u l ↔ IsNumberedStamp f u l w
reads_none f w x s reads none u l = (
  λ e. none_pair u l e,
  λ d. ⊎_elim (λ p. absurd (no_stamp f.pieces w x reads none u p.1)) (λ p. absurd (s p.0)) (numbered_or f u l w d),
)
