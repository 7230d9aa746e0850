-- Each log and dated naming make a set: the stamp and the serial number of a path are read back from it.
use Rattle.std.proofs.Common.{◌≡◌, ◌⊎◌, inl, inr, ℕ, zero, suc, ◌+◌, ◌-◌, ◌*◌, ◌/◌, ◌%◌, ◌<◌, Bool, true, false, cond, ◌&&◌, bytes_eq, refl, sym, ◌∙◌, ap, subst, arith, Option, Some, None, List, [], ◌∷◌, ◌++◌, length, take, drop, get_or, ℤ, length-append, append-nil}
use Rattle.std.specs.Prelude.{decimal, nat_lt, ◌==◌}
use Rattle.std.specs.List.{list_any}
use Rattle.std.specs.Str.Parse.{digits_value}
use Rattle.std.proofs.lemmas.Bool.Decides.{Decides-ltb}
use Rattle.std.proofs.lemmas.Fmt.{decimal_is_IsNumeral}
use Rattle.std.proofs.lemmas.List.{append_assoc}
use Rattle.std.proofs.Math.Seq.{drop-append_seam, take-append_seam}
use Rattle.std.proofs.lemmas.Slice.Eq.{bytes_eq-Decides}
use Rattle.std.proofs.lemmas.Bool.{and_parts, and_from, or_left, or_parts}
use Rattle.std.proofs.lemmas.Option.{same_Some}
use Rattle.lr_rules.specs.declared.path.Path.{Path}
use Rattle.lr_rules.specs.declared.stamp_parts.StampParts.{StampParts}
use Rattle.lr_rules.specs.declared.rule.Field.{Field}
use Rattle.lr_rules.specs.declared.rule.Field.TheVariants as field
use Rattle.lr_rules.specs.declared.rule.Format.{Format}
use Rattle.lr_rules.specs.declared.rule.Naming.{Naming}
use Rattle.lr_rules.specs.declared.rule.Piece.{Piece}
use Rattle.lr_rules.specs.declared.rule.Piece.TheVariants as piece
use Rattle.lr_rules.specs.Limits.{is_format}
use Rattle.lr_rules.specs.Path.{joined, path_fault}
use Rattle.lr_rules.proofs.Digits.{decimal_run}
use Rattle.lr_rules.specs.StampParts.{part, with_part, least}
use Rattle.lr_rules.specs.Stamps.{two, field_text, bound, stamp_text, same_field, is_in, IsStampReading}
use Rattle.lr_stamps.specs.Asked.{FieldsDiffer, HasLeft}
use Rattle.lr_stamps.specs.Serials.{is_dot, IsCounted}
use Rattle.lr_rules.specs.Moments.{seconds_by, IsStamp}
use Rattle.lr_rules.specs.Dated.{serial_text, IsSerial, IsNumberedStamp, IsDatedAt, stamp_key}
use Rattle.lr_stamps.proofs.Fields.{itself, parts_same, with_other}
use Rattle.lr_stamps.proofs.Formats.{format_apart}
use Rattle.lr_stamps.proofs.MomentLemmas.{small_parts, is_moment, moment_told, moment_tells}
use Rattle.lr_stamps.proofs.Readings.{field_from, apart_rest, left_text}
use Rattle.lr_stamps.proofs.Serials.{digits_no_dot, dot_within, not_both, numbered_or}
use Rattle.lr_host.specs.Sets.{LogSet, order_of, IsKeyBy}

-- ---- a stamp, read without a test

abbrev digit : List ℕ → ℕ → ℕ
digit w k = get_or w k 0 - 48

abbrev two_of : List ℕ → ℕ
two_of w = digit w 0 * 10 + digit w 1

abbrev value_of : Field → ℕ → List ℕ → ℕ
value_of field.Year k w = two_of w * 100 + two_of (drop 2 w)
value_of field.Epoch k w = digits_value 10 (take k w)
value_of _ k w = two_of w

abbrev width : Field → ℕ → ℕ
width field.Year k = 4
width field.Epoch k = k
width _ k = 2

abbrev guess : List Piece → List ℕ → StampParts → StampParts
guess [] w p = p
guess (piece.Byte b ∷ ps) w p = guess ps (drop 1 w) p
guess (piece.Field f ∷ ps) w p = guess ps (drop (width f (length w - length ps)) w) (with_part p f (value_of f (length w - length ps) w))

two_read : (v : ℕ) (rest : List ℕ) → v < 100 → two_of (two v ++ rest) ≡ v
two_read v rest lt = omega arith

-- the length of the digits is known where it counts
abbrev IsKnown : Field → ℕ → ℕ → Type 0
IsKnown field.Epoch n m = n ≡ m
IsKnown _ n m = Unit {0}

value_read : (f : Field) (v k : ℕ) (rest : List ℕ) → v < bound f → IsKnown f k (length (field_text f v)) → value_of f k (field_text f v ++ rest) ≡ v
value_read field.Year v k rest lt e =
    let high : two_of (two (v / 100) ++ (two (v % 100) ++ rest)) ≡ v / 100 = two_read (v / 100) (two (v % 100) ++ rest) (omega arith) in
    let low : two_of (two (v % 100) ++ rest) ≡ v % 100 = two_read (v % 100) rest (omega arith) in
    omega (arith, high, low)
value_read field.Epoch v k rest lt e =
    ap (λ (n : ℕ). digits_value 10 (take n (decimal v ++ rest))) e ∙ (ap (digits_value 10) (take-append_seam (decimal v) rest) ∙ (decimal_is_IsNumeral v (omega arith)).1)
value_read field.Month v k rest lt e = two_read v rest lt
value_read field.Day v k rest lt e = two_read v rest lt
value_read field.Hour v k rest lt e = two_read v rest lt
value_read field.Minute v k rest lt e = two_read v rest lt
value_read field.Second v k rest lt e = two_read v rest lt

rest_read : (f : Field) (v k : ℕ) (rest : List ℕ) → IsKnown f k (length (field_text f v)) → drop (width f k) (field_text f v ++ rest) ≡ rest
rest_read field.Year v k rest e = refl
rest_read field.Epoch v k rest e = ap (λ (n : ℕ). drop n (decimal v ++ rest)) e ∙ drop-append_seam (decimal v) rest
rest_read field.Month v k rest e = refl
rest_read field.Day v k rest e = refl
rest_read field.Hour v k rest e = refl
rest_read field.Minute v k rest e = refl
rest_read field.Second v k rest e = refl

-- ---- it is what a reading says

known_by : (f : Field) (ps : List Piece) (q : StampParts) (w : List ℕ) → HasLeft f (length ps) (stamp_text q ps) → w ≡ field_text f (part q f) ++ stamp_text q ps → IsKnown f (length w - length ps) (length (field_text f (part q f)))
known_by field.Epoch ps q w l e = let n : length w ≡ length (decimal q.epoch) + length (stamp_text q ps) = ap length e ∙ length-append (decimal q.epoch) (stamp_text q ps) in let m : length (stamp_text q ps) ≡ length ps = l in omega arith
known_by field.Year ps q w l e = tt
known_by field.Month ps q w l e = tt
known_by field.Day ps q w l e = tt
known_by field.Hour ps q w l e = tt
known_by field.Minute ps q w l e = tt
known_by field.Second ps q w l e = tt

guess_is : (ps : List Piece) (before q : StampParts) (w : List ℕ) → FieldsDiffer ps → IsStampReading ps before q w → guess ps w before ≡ q
guess_is [] before q w a r = sym (parts_same q before (λ f. r.rest f refl))
guess_is (piece.Byte b ∷ ps) before q w a r = guess_is ps before q (drop 1 w) a (record { text = ap (drop 1) r.text; small = r.small; rest = r.rest })
guess_is (piece.Field f ∷ ps) before q w a r =
    let v : ℕ = part q f in
    let k : ℕ = length w - length ps in
    let low : part q f < bound f = r.small f (or_left (same_field f f) (is_in f ps) (itself f)) in
    let left : HasLeft f (length ps) (stamp_text q ps) = left_text f ps q a in
    let known : IsKnown f (length w - length ps) (length (field_text f (part q f))) = known_by f ps q w left r.text in
    let value : value_of f (length w - length ps) w ≡ part q f = ap (value_of f (length w - length ps)) r.text ∙ value_read f (part q f) (length w - length ps) (stamp_text q ps) low known in
    let rest : drop (width f (length w - length ps)) w ≡ stamp_text q ps = ap (drop (width f (length w - length ps))) r.text ∙ rest_read f (part q f) (length w - length ps) (stamp_text q ps) known in
    ap (λ (u : List ℕ). guess ps u (with_part before f (value_of f (length w - length ps) w))) rest
    ∙ (ap (λ (n : ℕ). guess ps (stamp_text q ps) (with_part before f n)) value
    ∙ guess_is ps (with_part before f (part q f)) q (stamp_text q ps) (apart_rest f ps a) (field_from before q f (part q f) ps w (stamp_text q ps) a low r.text left r))

-- what lacks stays as it was
guess_rest : (ps : List Piece) (w : List ℕ) (p : StampParts) (g : Field) → is_in g ps ≡ false → part (guess ps w p) g ≡ part p g
guess_rest [] w p g out = refl
guess_rest (piece.Byte b ∷ ps) w p g out = guess_rest ps (drop 1 w) p g out
guess_rest (piece.Field f ∷ ps) w p g out =
    let n = or_parts (same_field g f) (is_in g ps) out in
    guess_rest ps (drop (width f (length w - length ps)) w) (with_part p f (value_of f (length w - length ps) w)) g n.1 ∙ with_other p f (value_of f (length w - length ps) w) g n.0

-- ---- what stands behind the last dot

-- how many bytes stand behind the last dot, where there is one
abbrev behind : List ℕ → ℕ
behind [] = 0
behind (b ∷ w) = cond (list_any is_dot w) (behind w) (length w)

behind_is : (a d : List ℕ) → list_any is_dot d ≡ false → behind (a ++ 46 ∷ d) ≡ length d
behind_is [] d none = ap (λ (b : Bool). cond b (behind d) (length d)) none
behind_is (x ∷ a) d none = ap (λ (b : Bool). cond b (behind (a ++ 46 ∷ d)) (length (a ++ 46 ∷ d))) (dot_within a d) ∙ behind_is a d none

abbrev front_bytes : List ℕ → List ℕ
front_bytes w = take (length w - behind w - 1) w

abbrev end_bytes : List ℕ → List ℕ
end_bytes w = drop (length w - behind w) w

front_is : (a d w : List ℕ) → list_any is_dot d ≡ false → w ≡ a ++ 46 ∷ d → front_bytes w ≡ a
front_is a d w none e =
    let b : behind w ≡ length d = ap behind e ∙ behind_is a d none in
    let l : length w ≡ length a + length (46 ∷ d) = ap length e ∙ length-append a (46 ∷ d) in
    let count : length w - behind w - 1 ≡ length a = omega (arith, b, l) in
    ap (λ (k : ℕ). take k w) count ∙ (ap (take (length a)) e ∙ take-append_seam a (46 ∷ d))

end_is : (a d w : List ℕ) → list_any is_dot d ≡ false → w ≡ a ++ 46 ∷ d → end_bytes w ≡ d
end_is a d w none e =
    let b : behind w ≡ length d = ap behind e ∙ behind_is a d none in
    let l : length w ≡ length a + length (46 ∷ d) = ap length e ∙ length-append a (46 ∷ d) in
    let m : length (a ++ 46 ∷ []) ≡ length a + 1 = length-append a (46 ∷ []) in
    let count : length w - behind w ≡ length (a ++ 46 ∷ []) = omega (arith, b, l, m) in
    ap (λ (k : ℕ). drop k w) count ∙ (ap (drop (length (a ++ 46 ∷ []))) (e ∙ sym (append_assoc a (46 ∷ []) d)) ∙ drop-append_seam (a ++ 46 ∷ []) d)

-- ---- the key of a path

abbrev front_of : Naming → List ℕ
front_of n = cond (length n.dir == 1) [] n.dir ++ 47 ∷ n.base

abbrev middle_in : Naming → Path → List ℕ
middle_in n x = take (length x - length (front_of n) - length n.ext) (drop (length (front_of n)) x)

abbrev written : Naming → Format → StampParts → ℕ → Path
written n f p k = joined n.dir (n.base ++ (stamp_text p f.pieces ++ serial_text k) ++ n.ext)

abbrev is_right : Naming → Format → Path → StampParts → ℕ → Bool
is_right n f x p k = is_moment p && (nat_lt p.epoch 1000000000000 && bytes_eq x (written n f p k))

abbrev is_counted : Format → ℕ → Bool
is_counted f k = f.serial && (nat_lt 0 k && nat_lt k 4294967296)

-- the parts that a middle has without a serial number, and with one, and that number
abbrev plain_parts : Naming → Format → Path → StampParts
plain_parts n f x = guess f.pieces (middle_in n x) least

abbrev serial_parts : Naming → Format → Path → StampParts
serial_parts n f x = guess f.pieces (front_bytes (middle_in n x)) least

abbrev serial_in : Naming → Path → ℕ
serial_in n x = digits_value 10 (end_bytes (middle_in n x))

abbrev key_if : Bool → ℤ → Option ℤ → Option ℤ
key_if b k other = cond b (Some k) other

abbrev serial_key : Naming → Format → Path → StampParts → ℕ → Option ℤ
serial_key n f x p k = key_if (is_counted f k && is_right n f x p k) (stamp_key (seconds_by f.pieces p) k) None

abbrev key_of : Naming → Format → Path → Option ℤ
key_of n f x = key_if (is_right n f x (plain_parts n f x) 0) (stamp_key (seconds_by f.pieces (plain_parts n f x)) 0) (serial_key n f x (serial_parts n f x) (serial_in n x))

split_up : (n : Naming) (w : List ℕ) → joined n.dir (n.base ++ w ++ n.ext) ≡ front_of n ++ (w ++ n.ext)
split_up n w =
    let dir : List ℕ = cond (length n.dir == 1) [] n.dir in
    ap (λ (xs : List ℕ). dir ++ (47 ∷ xs)) (append_assoc n.base w n.ext) ∙ sym (append_assoc dir (47 ∷ n.base) (w ++ n.ext))

middle_found : (n : Naming) (w : List ℕ) (x : Path) → x ≡ joined n.dir (n.base ++ w ++ n.ext) → middle_in n x ≡ w
middle_found n w x e =
    let is : x ≡ front_of n ++ (w ++ n.ext) = e ∙ split_up n w in
    let size : length (w ++ n.ext) ≡ length w + length n.ext = length-append w n.ext in
    let whole : length x ≡ length (front_of n) + length (w ++ n.ext) = ap length is ∙ length-append (front_of n) (w ++ n.ext) in
    let count : length x - length (front_of n) - length n.ext ≡ length w = omega (arith, size, whole) in
    ap (λ (k : ℕ). take k (drop (length (front_of n)) x)) count
    ∙ (ap (λ (y : List ℕ). take (length w) (drop (length (front_of n)) y)) is
    ∙ (ap (take (length w)) (drop-append_seam (front_of n) (w ++ n.ext)) ∙ take-append_seam w n.ext))

-- ---- a path with a key is a member

right_member : (n : Naming) (f : Format) (x : Path) (p : StampParts) (k : ℕ) → ((g : Field) → is_in g f.pieces ≡ false → part p g ≡ part least g) → n.dated ≡ Some f → IsSerial f k → is_right n f x p k ≡ true → IsDatedAt n (seconds_by f.pieces p) k x
right_member n f x p k lacks d s e =
    let a = and_parts (is_moment p) (nat_lt p.epoch 1000000000000 && bytes_eq x (written n f p k)) e in
    let b = and_parts (nat_lt p.epoch 1000000000000) (bytes_eq x (written n f p k)) a.1 in
    let m = moment_told p a.0 in
    record {
      format = f;
      dated = d;
      middle = stamp_text p f.pieces ++ serial_text k;
      is = record {
        stamp = stamp_text p f.pieces;
        is = record {
          parts = p;
          reading = record { text = refl; small = λ g i. small_parts p m ((Decides-ltb p.epoch 1000000000000).0 b.0) g; rest = lacks };
          moment = m;
          is = refl;
        };
        numbered = s;
        text = refl;
      };
      named = (bytes_eq-Decides x (written n f p k)).0 b.1;
    }

-- what a dated naming gives a path
abbrev Keyed : Naming → ℤ → Path → Type 0
Keyed n k x = (seconds : ℤ) × (serial : ℕ) × (k ≡ stamp_key seconds serial) × IsDatedAt n seconds serial x

reads : (n : Naming) (f : Format) (x : Path) (k : ℤ) → n.dated ≡ Some f → key_of n f x ≡ Some k → Keyed n k x
reads n f x k d is = first (is_right n f x (plain_parts n f x) 0) refl is
  where
    second : (b : Bool) → (is_counted f (serial_in n x) && is_right n f x (serial_parts n f x) (serial_in n x)) ≡ b → key_if b (stamp_key (seconds_by f.pieces (serial_parts n f x)) (serial_in n x)) None ≡ Some k → Keyed n k x
    second true e q =
        let a = and_parts (is_counted f (serial_in n x)) (is_right n f x (serial_parts n f x) (serial_in n x)) e in
        let c = and_parts f.serial (nat_lt 0 (serial_in n x) && nat_lt (serial_in n x) 4294967296) a.0 in
        let h = and_parts (nat_lt 0 (serial_in n x)) (nat_lt (serial_in n x) 4294967296) c.1 in
        let below : serial_in n x < 4294967296 = (Decides-ltb (serial_in n x) 4294967296).0 h.1 in (
          seconds_by f.pieces (serial_parts n f x),
          serial_in n x,
          sym (same_Some (stamp_key (seconds_by f.pieces (serial_parts n f x)) (serial_in n x)) k q),
          right_member n f x (serial_parts n f x) (serial_in n x) (λ g i. guess_rest f.pieces (front_bytes (middle_in n x)) least g i) d (inr (c.0, omega (arith, below))) a.1,
        )
    second false e q = absurd (cc)

    first : (b : Bool) → is_right n f x (plain_parts n f x) 0 ≡ b → key_if b (stamp_key (seconds_by f.pieces (plain_parts n f x)) 0) (serial_key n f x (serial_parts n f x) (serial_in n x)) ≡ Some k → Keyed n k x
    first true e q = (seconds_by f.pieces (plain_parts n f x), 0, sym (same_Some (stamp_key (seconds_by f.pieces (plain_parts n f x)) 0) k q), right_member n f x (plain_parts n f x) 0 (λ g i. guess_rest f.pieces (middle_in n x) least g i) d (inl refl) e)
    first false e q = second (is_counted f (serial_in n x) && is_right n f x (serial_parts n f x) (serial_in n x)) refl q

-- ---- a member has its key

epoch_small : (ps : List Piece) (q : StampParts) (w : List ℕ) → IsStampReading ps least q w → q.epoch < 1000000000000
epoch_small ps q w r = go (is_in field.Epoch ps) refl
  where
    go : (b : Bool) → is_in field.Epoch ps ≡ b → q.epoch < 1000000000000
    go true e = r.small field.Epoch e
    go false e = let z : q.epoch ≡ 0 = r.rest field.Epoch e in omega arith

right_by : (n : Naming) (f : Format) (x : Path) (t : ℤ) (w : List ℕ) (k : ℕ) (s : IsStamp f.pieces t w) → x ≡ joined n.dir (n.base ++ (w ++ serial_text k) ++ n.ext) → is_right n f x s.parts k ≡ true
right_by n f x t w k s e = and_from (is_moment s.parts) (nat_lt s.parts.epoch 1000000000000 && bytes_eq x (written n f s.parts k)) (moment_tells s.parts s.moment)
    (and_from (nat_lt s.parts.epoch 1000000000000) (bytes_eq x (written n f s.parts k)) ((Decides-ltb s.parts.epoch 1000000000000).1 (epoch_small f.pieces s.parts w s.reading))
    ((bytes_eq-Decides x (written n f s.parts k)).1 (e ∙ ap (λ (v : List ℕ). joined n.dir (n.base ++ (v ++ serial_text k) ++ n.ext)) s.reading.text)))

plain_key : (n : Naming) (f : Format) (x : Path) (t : ℤ) (w : List ℕ) → is_format f ≡ true → IsStamp f.pieces t w → x ≡ joined n.dir (n.base ++ w ++ n.ext) → key_of n f x ≡ Some (stamp_key t 0)
plain_key n f x t w e s is = ap (λ (p : StampParts). key_if (is_right n f x p 0) (stamp_key (seconds_by f.pieces p) 0) (serial_key n f x (serial_parts n f x) (serial_in n x))) found
    ∙ (ap (λ (b : Bool). key_if b (stamp_key (seconds_by f.pieces s.parts) 0) (serial_key n f x (serial_parts n f x) (serial_in n x))) right ∙ ap (λ (u : ℤ). Some (stamp_key u 0)) (sym s.is))
  where
    found : plain_parts n f x ≡ s.parts
    found = ap (λ (v : List ℕ). guess f.pieces v least) (middle_found n w x is) ∙ guess_is f.pieces least s.parts w (format_apart f e) s.reading

    right : is_right n f x s.parts 0 ≡ true
    right = right_by n f x t w 0 s (is ∙ ap (λ (v : List ℕ). joined n.dir (n.base ++ v ++ n.ext)) (sym (append-nil w)))

-- without a serial number it is a stamp
without : (f : Format) (t : ℤ) (w : List ℕ) → IsNumberedStamp f t 0 w → IsStamp f.pieces t w
without f t w s = go (numbered_or f t 0 w s)
  where
    go : ((◌≡◌ {A = ℕ} 0 0) × IsStamp f.pieces t w) ⊎ ((f.serial ≡ true) × IsCounted f.pieces t 0 w) → IsStamp f.pieces t w
    go (inl p) = p.1
    go (inr p) = absurd (omega (arith, p.1.above))

counted_key : (n : Naming) (f : Format) (x : Path) (t : ℤ) (k : ℕ) (w : List ℕ) → is_format f ≡ true → n.dated ≡ Some f → f.serial ≡ true → IsCounted f.pieces t k w → x ≡ joined n.dir (n.base ++ w ++ n.ext) → key_of n f x ≡ Some (stamp_key t k)
counted_key n f x t k w e d serial c is = ap (λ (b : Bool). key_if b (stamp_key (seconds_by f.pieces (plain_parts n f x)) 0) (serial_key n f x (serial_parts n f x) (serial_in n x))) (no_plain (is_right n f x (plain_parts n f x) 0) refl)
    ∙ (ap (λ (p : StampParts). serial_key n f x p (serial_in n x)) parts ∙ (ap (serial_key n f x c.is.parts) number ∙ (ap (λ (b : Bool). key_if b (stamp_key (seconds_by f.pieces c.is.parts) k) None) right ∙ ap (λ (u : ℤ). Some (stamp_key u k)) (sym c.is.is))))
  where
    middle : middle_in n x ≡ w
    middle = middle_found n w x is

    no_dot : list_any is_dot (decimal k) ≡ false
    no_dot = digits_no_dot (decimal k) (decimal_run k (omega (arith, c.within))).1

    -- the same bytes would be a stamp without a serial number
    no_plain : (b : Bool) → is_right n f x (plain_parts n f x) 0 ≡ b → is_right n f x (plain_parts n f x) 0 ≡ false
    no_plain true q =
        let m = right_member n f x (plain_parts n f x) 0 (λ g i. guess_rest f.pieces (middle_in n x) least g i) d (inl refl) q in
        let is_one : IsNumberedStamp f (seconds_by f.pieces (plain_parts n f x)) 0 m.middle = subst (λ (g : Format). IsNumberedStamp g (seconds_by f.pieces (plain_parts n f x)) 0 m.middle) (same_Some m.format f (sym m.dated ∙ d)) m.is in
        let same : m.middle ≡ w = sym (middle_found n m.middle x m.named) ∙ middle in
        absurd (not_both f.pieces (seconds_by f.pieces (plain_parts n f x)) t k w (format_apart f e) (subst (IsStamp f.pieces (seconds_by f.pieces (plain_parts n f x))) same (without f (seconds_by f.pieces (plain_parts n f x)) m.middle is_one)) c)
    no_plain false q = q

    parts : serial_parts n f x ≡ c.is.parts
    parts = ap (λ (v : List ℕ). guess f.pieces (front_bytes v) least) middle ∙ (ap (λ (v : List ℕ). guess f.pieces v least) (front_is c.stamp (decimal k) w no_dot c.text) ∙ guess_is f.pieces least c.is.parts c.stamp (format_apart f e) c.is.reading)

    number : serial_in n x ≡ k
    number = ap (λ (v : List ℕ). digits_value 10 (end_bytes v)) middle ∙ (ap (digits_value 10) (end_is c.stamp (decimal k) w no_dot c.text) ∙ (decimal_is_IsNumeral k (omega (arith, c.within))).1)

    counted : is_counted f k ≡ true
    counted = and_from f.serial (nat_lt 0 k && nat_lt k 4294967296) serial (and_from (nat_lt 0 k) (nat_lt k 4294967296) ((Decides-ltb 0 k).1 c.above) ((Decides-ltb k 4294967296).1 (omega (arith, c.within))))

    text : w ≡ c.stamp ++ serial_text k
    text = go k c.above c.text
      where
        go : (k : ℕ) → 0 < k → w ≡ c.stamp ++ 46 ∷ decimal k → w ≡ c.stamp ++ serial_text k
        go zero a b = absurd (omega (arith, a))
        go (suc k) a b = b

    right : (is_counted f k && is_right n f x c.is.parts k) ≡ true
    right = and_from (is_counted f k) (is_right n f x c.is.parts k) counted (right_by n f x t c.stamp k c.is (is ∙ ap (λ (v : List ℕ). joined n.dir (n.base ++ v ++ n.ext)) text))

writes : (n : Naming) (f : Format) (x : Path) (k : ℤ) → is_format f ≡ true → n.dated ≡ Some f → Keyed n k x → key_of n f x ≡ Some k
writes n f x k e d (t, serial, same, m) = go (numbered_or f t serial m.middle is) ∙ ap Some (sym same)
  where
    is : IsNumberedStamp f t serial m.middle
    is = subst (λ (g : Format). IsNumberedStamp g t serial m.middle) (same_Some m.format f (sym m.dated ∙ d)) m.is

    go : ((serial ≡ 0) × IsStamp f.pieces t m.middle) ⊎ ((f.serial ≡ true) × IsCounted f.pieces t serial m.middle) → key_of n f x ≡ Some (stamp_key t serial)
    go (inl p) = plain_key n f x t m.middle e p.1 m.named ∙ ap (λ (j : ℕ). Some (stamp_key t j)) (sym p.0)
    go (inr p) = counted_key n f x t serial m.middle e d p.0 p.1 m.named

no_key : (n : Naming) (f : Format) (x : Path) → n.dated ≡ Some f → ((t : ℤ) (k : ℕ) → IsDatedAt n t k x → ⊥) → key_of n f x ≡ None
no_key n f x d apart = go (key_of n f x) refl
  where
    go : (o : Option ℤ) → key_of n f x ≡ o → key_of n f x ≡ None
    go None q = q
    go (Some k) q = let m = reads n f x k d q in absurd (apart m.0 m.1 m.3)

pub dated_set_exists : (log : Path) (n : Naming) (f : Format) → path_fault log ≡ None → n.dated ≡ Some f → is_format f ≡ true → ((t : ℤ) (k : ℕ) → IsDatedAt n t k log → ⊥) → (s : LogSet) × (s.log ≡ log) × (s.naming ≡ n)
dated_set_exists log n f path d e apart = (record { log = log; log_path = path; naming = n; key = key_of n f; keys = keys; log_apart = no_key n f log d apart }, refl, refl)
  where
    keys : IsKeyBy (order_of n.dated) n (key_of n f)
    keys = subst (λ (g : Option Format). IsKeyBy (order_of g) n (key_of n f)) (sym d) (λ x k. ((λ is. reads n f x k d is), (λ m. writes n f x k e d m)))
