-- The path that a log gets is short enough for a part file beside it.
use Rattle.std.proofs.Common.{◌≡◌, ◌≤◌, ◌<◌, ◌+◌, ◌*◌, ℕ, zero, suc, ℤ, Bool, true, false, cond, List, [], ◌∷◌, ◌++◌, length, arith, length-append, nat_eq, ap, subst}
use Rattle.std.specs.Prelude.{decimal, nat_le}
use Rattle.std.specs.List.{list_all}
use Rattle.std.proofs.lemmas.Bool.Decides.{nat_tests}
use Rattle.std.specs.Str.{is_utf8}
use Rattle.std.proofs.lemmas.Bool.{and_parts, or_left, or_right}
use Rattle.std.proofs.lemmas.Fmt.{length-decimal-le}
use Rattle.lr_rules.specs.declared.path.Path.{Path}
use Rattle.lr_rules.specs.declared.rule.Field.{Field}
use Rattle.lr_rules.specs.declared.rule.Field.TheVariants as field
use Rattle.lr_rules.specs.declared.rule.Format.{Format}
use Rattle.lr_rules.specs.declared.rule.Naming.{Naming}
use Rattle.lr_rules.specs.declared.rule.Piece.{Piece}
use Rattle.lr_rules.specs.declared.rule.Piece.TheVariants as piece
use Rattle.lr_rules.specs.declared.stamp_parts.StampParts.{StampParts}
use Rattle.lr_rules.specs.Dated.{serial_text, IsNumberedStamp, IsDatedAt}
use Rattle.lr_rules.specs.Limits.{is_plain_piece, written, is_format, or_none}
use Rattle.lr_rules.specs.Path.{joined}
use Rattle.lr_rules.specs.StampParts.{part}
use Rattle.lr_rules.specs.Stamps.{field_text, bound, stamp_text, same_field, is_in}
use Rattle.lr_rules.proofs.Counts.{serial_small}
use Rattle.lr_stamps.proofs.Fields.{itself}
use Rattle.lr_family.specs.Kin.{IsKin}
use Rattle.lr_family.specs.Named.{member_name}
use Rattle.lr_family.specs.Spots.{path_at}

joined_short : (b : Bool) (dir last : List ℕ) → length (cond b [] dir ++ 47 ∷ last) ≤ length dir + 1 + length last
joined_short true dir last = omega arith
joined_short false dir last = omega (arith, length-append dir (47 ∷ last))

pub target_short : (log : Path) (n : Naming) → IsKin log n → n.start ≤ 999999 → length (path_at n 0) ≤ 4081
target_short log n kin low =
    let digits : length (decimal (n.start + 0)) ≤ 7 = length-decimal-le 7 (n.start + 0) (omega arith) (omega arith) (omega arith) in
    let front : length (n.base ++ 46 ∷ decimal (n.start + 0)) ≡ length n.base + length (46 ∷ decimal (n.start + 0)) = length-append n.base (46 ∷ decimal (n.start + 0)) in
    let name : length ((n.base ++ 46 ∷ decimal (n.start + 0)) ++ n.ext) ≡ length (n.base ++ 46 ∷ decimal (n.start + 0)) + length n.ext = length-append (n.base ++ 46 ∷ decimal (n.start + 0)) n.ext in
    let path : length (path_at n 0) ≤ length n.dir + 1 + length (member_name n (n.start + 0)) = joined_short (nat_eq (length n.dir) 1) n.dir (member_name n (n.start + 0)) in
    let size = kin.size in
    let dir = kin.dir in
    omega (arith, digits, front, name, path, size, dir)

-- ---- of a dated one

field_short : (f : Field) (v : ℕ) → v < bound f → length (field_text f v) ≤ 12
field_short field.Year v lt = omega arith
field_short field.Epoch v lt = length-decimal-le 12 v (omega arith) (omega arith) (omega (arith, lt))
field_short field.Month v lt = omega arith
field_short field.Day v lt = omega arith
field_short field.Hour v lt = omega arith
field_short field.Minute v lt = omega arith
field_short field.Second v lt = omega arith

stamp_short : (p : StampParts) (ps : List Piece) → ((f : Field) → is_in f ps ≡ true → part p f < bound f) → length (stamp_text p ps) ≤ 12 * length ps
stamp_short p [] h = omega arith
stamp_short p (piece.Byte b ∷ ps) h = let r : length (stamp_text p ps) ≤ 12 * length ps = stamp_short p ps h in omega (arith, r)
stamp_short p (piece.Field f ∷ ps) h =
    let r : length (stamp_text p ps) ≤ 12 * length ps = stamp_short p ps (λ g i. h g (or_right (same_field g f) (is_in g ps) i)) in
    let own : length (field_text f (part p f)) ≤ 12 = field_short f (part p f) (h f (or_left (same_field f f) (is_in f ps) (itself f))) in
    let both : length (field_text f (part p f) ++ stamp_text p ps) ≡ length (field_text f (part p f)) + length (stamp_text p ps) = length-append (field_text f (part p f)) (stamp_text p ps) in
    omega (arith, r, own, both)

-- a format has as many pieces as bytes, or fewer
few_pieces : (ps : List Piece) → length ps ≤ length (written ps)
few_pieces [] = omega arith
few_pieces (piece.Byte b ∷ ps) = let r = few_pieces ps in omega (arith, r)
few_pieces (piece.Field f ∷ ps) = let r = few_pieces ps in omega (arith, r)

few_enough : (n : ℕ) → nat_le n 64 ≡ true → n ≤ 64
few_enough n h = grind (arith, nat_tests)

pieces_short : (f : Format) → is_format f ≡ true → length f.pieces ≤ 64
pieces_short f good =
    let a = (and_parts (list_all is_plain_piece f.pieces) _ good).1 in
    let b = (and_parts (is_utf8 (written f.pieces)) _ a).1 in
    let c : length (written f.pieces) ≤ 64 = few_enough (length (written f.pieces)) (and_parts (nat_le (length (written f.pieces)) 64) _ b).0 in
    let d = few_pieces f.pieces in
    omega (arith, c, d)

serial_short : (k : ℕ) → k ≤ 4294967295 → length (serial_text k) ≤ 11
serial_short zero le = omega arith
serial_short (suc k) le = let r : length (decimal (suc k)) ≤ 10 = length-decimal-le 10 (suc k) (omega arith) (omega arith) (omega (arith, le)) in omega (arith, r)

numbered_short : (f : Format) (t : ℤ) (k : ℕ) (w : List ℕ) → is_format f ≡ true → IsNumberedStamp f t k w → length w ≤ 779
numbered_short f t k w good n =
    let few = pieces_short f good in
    let text : length n.stamp ≡ length (stamp_text n.is.parts f.pieces) = ap length n.is.reading.text in
    let stamp = stamp_short n.is.parts f.pieces n.is.reading.small in
    let behind = serial_short k (serial_small f k n.numbered) in
    let both : length (n.stamp ++ serial_text k) ≡ length n.stamp + length (serial_text k) = length-append n.stamp (serial_text k) in
    let is : length w ≡ length (n.stamp ++ serial_text k) = ap length n.text in
    omega (arith, few, text, stamp, behind, both, is)

-- the path of a dated member is short enough too
pub dated_short : (log : Path) (n : Naming) (t : ℤ) (k : ℕ) (x : Path) → IsKin log n → or_none is_format n.dated ≡ true → IsDatedAt n t k x → length x ≤ 4081
dated_short log n t k x kin good m =
    let fine : is_format m.format ≡ true = subst (λ d. or_none is_format d ≡ true) m.dated good in
    let middle = numbered_short m.format t k m.middle fine m.is in
    let size = kin.size in
    let dir = kin.dir in
    let front : length (n.base ++ m.middle) ≡ length n.base + length m.middle = length-append n.base m.middle in
    let name : length ((n.base ++ m.middle) ++ n.ext) ≡ length (n.base ++ m.middle) + length n.ext = length-append (n.base ++ m.middle) n.ext in
    let path : length (joined n.dir ((n.base ++ m.middle) ++ n.ext)) ≤ length n.dir + 1 + length ((n.base ++ m.middle) ++ n.ext) = joined_short (nat_eq (length n.dir) 1) n.dir ((n.base ++ m.middle) ++ n.ext) in
    let is : length x ≡ length (joined n.dir ((n.base ++ m.middle) ++ n.ext)) = ap length m.named in
    omega (arith, middle, size, dir, front, name, path, is)
