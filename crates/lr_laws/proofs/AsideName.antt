-- The path where a log waits while it is set aside is no member's: its last part has the digits of the log's name, and that of a member has more.
use Rattle.std.proofs.Common.{◌≡◌, inl, inr, ⊎_elim, ℕ, suc, ◌+◌, ◌-◌, ◌<◌, ◌≤◌, ◌^◌, Bool, true, false, not, cond, ◌&&◌, bytes_eq, refl, sym, ◌∙◌, ap, subst, arith, append_assoc, List, [], ◌∷◌, ◌++◌, length, take, drop, Option, Some, None, ℤ}
use Rattle.std.specs.Prelude.{nat_le, ◌==◌, decimal, codes}
use Rattle.std.specs.List.{list_any, list_all}
use Rattle.std.specs.Str.{is_utf8}
use Rattle.std.proofs.lemmas.Bool.{and_parts, or_parts, or_from, not-true, or_cases}
use Rattle.std.proofs.lemmas.List.{take-append-drop}
use Rattle.std.proofs.lemmas.List.Elements.{All-head, All-tail}
use Rattle.std.proofs.lemmas.Slice.Eq.{bytes_eq-Decides}
use Rattle.lr_rules.specs.declared.path.Path.{Path}
use Rattle.lr_rules.specs.declared.rule.Format.{Format}
use Rattle.lr_rules.specs.declared.rule.Naming.{Naming}
use Rattle.lr_rules.specs.declared.rule.Piece.{Piece}
use Rattle.lr_rules.specs.declared.rule.Piece.TheVariants as piece
use Rattle.lr_rules.specs.declared.rule.Rule.{Rule}
use Rattle.lr_rules.specs.Dated.{IsDatedAt}
use Rattle.lr_rules.specs.Limits.{is_log_word, is_olddir, is_extension, is_address, is_small, is_size, is_count, is_criterion, is_make, is_plain_piece, written, are_first, is_epoch_alone, is_format, times, or_none, meets_limits}
use Rattle.lr_rules.specs.Names.{AreDigits, IsStampShape, number_pieces, IsMiddleShape, IsMemberAt, ends_with, ext_of, base_of, aside_path, naming_of}
use Rattle.lr_rules.specs.Path.{path_fault, parent_of, last_of, joined, is_slash}
use Rattle.lr_rules.proofs.Digits.{decimal_run, decimal_plain, IsDigit, digit_is}
use Rattle.lr_rules.proofs.PathLemmas.{plain_both, last_joined, joined_parts, last_plain}
use Rattle.lr_rules.specs.Bytes.{is_digit}
use Rattle.lr_rules.proofs.Bools.{first_true}
use Rattle.lr_stamps.proofs.StampShapes.{numbered_shape}
use Rattle.lr_laws.proofs.PlainStamps.{field_digits, field_some, middle_plain}

-- ---- digits

-- how many of the bytes are digits
abbrev digits : List ℕ → ℕ
digits [] = 0
digits (b ∷ bs) = cond (is_digit b) (suc (digits bs)) (digits bs)

digits_on : (xs ys : List ℕ) → digits (xs ++ ys) ≡ digits xs + digits ys
digits_on [] ys = omega arith
digits_on (x ∷ xs) ys = go (is_digit x) (digits_on xs ys)
  where
    go : (b : Bool) → digits (xs ++ ys) ≡ digits xs + digits ys → cond b (suc (digits (xs ++ ys))) (digits (xs ++ ys)) ≡ cond b (suc (digits xs)) (digits xs) + digits ys
    go true e = omega (arith, e)
    go false e = e

all_digits : (ds : List ℕ) → AreDigits ds → digits ds ≡ length ds
all_digits [] h = refl
all_digits (d ∷ ds) h = ap (λ b. cond b (suc (digits ds)) (digits ds)) (digit_is d (All-head IsDigit d ds h)) ∙ ap suc (all_digits ds (All-tail IsDigit d ds h))

-- ---- those of a stamp

abbrev has_field : List Piece → Bool
has_field [] = false
has_field (piece.Byte b ∷ ps) = has_field ps
has_field (piece.Field f ∷ ps) = true

field_on : (ps qs : List Piece) → has_field ps ≡ true → has_field (ps ++ qs) ≡ true
field_on [] qs h = absurd (cc)
field_on (piece.Byte b ∷ ps) qs h = field_on ps qs h
field_on (piece.Field f ∷ ps) qs h = refl

field_there : (k : ℕ) (ps : List Piece) → (times k ps == 1) ≡ true → has_field ps ≡ true
field_there k [] h = absurd (cc)
field_there k (piece.Byte b ∷ ps) h = field_there k ps h
field_there k (piece.Field f ∷ ps) h = refl

stamp_some : (ps : List Piece) (w : List ℕ) → has_field ps ≡ true → IsStampShape ps w → 0 < digits w
stamp_some [] w some h = absurd (cc)
stamp_some (piece.Byte b ∷ ps) w some h =
    let rest : 0 < digits h.0 = stamp_some ps h.0 some h.2 in
    let e : digits w ≡ digits (b ∷ []) + digits h.0 = ap digits h.1 ∙ digits_on (b ∷ []) h.0 in
    omega (arith, e, rest)
stamp_some (piece.Field f ∷ ps) w some h =
    let e : digits w ≡ digits h.0 + digits h.1 = ap digits h.2 ∙ digits_on h.0 h.1 in
    let own : digits h.0 ≡ length h.0 = all_digits h.0 (field_digits f h.0 h.3) in
    let long : 0 < length h.0 = field_some f h.0 h.3 in
    omega (arith, e, own, long)

first_field : (ps : List Piece) → are_first ps ≡ true → has_field ps ≡ true
first_field ps h = field_there 0 ps (and_parts (times 0 ps == 1) _ h).0

alone_field : (ps : List Piece) → is_epoch_alone ps ≡ true → has_field ps ≡ true
alone_field ps h = field_there 6 ps (and_parts (times 6 ps == 1) _ h).0

format_field : (f : Format) → is_format f ≡ true → has_field f.pieces ≡ true
format_field f good =
    let rest = (and_parts (nat_le (length (written f.pieces)) 64) _ (and_parts (is_utf8 (written f.pieces)) _ (and_parts (list_all is_plain_piece f.pieces) _ good).1).1).1 in
    ⊎_elim (first_field f.pieces) (alone_field f.pieces) (or_cases (are_first f.pieces) (is_epoch_alone f.pieces) rest)

middle_digits : (f : Format) (w : List ℕ) → is_format f ≡ true → IsMiddleShape (Some f) w → 0 < digits w
middle_digits f w good (inl h) = stamp_some f.pieces w (format_field f good) h
middle_digits f w good (inr h) = stamp_some (f.pieces ++ number_pieces) w (field_on f.pieces number_pieces (format_field f good)) h.1

-- ---- base and extension

plain_front : (xs ys : List ℕ) → list_any is_slash (xs ++ ys) ≡ false → list_any is_slash xs ≡ false
plain_front [] ys h = refl
plain_front (x ∷ xs) ys h = let parts = or_parts (is_slash x) (list_any is_slash (xs ++ ys)) h in or_from (is_slash x) (list_any is_slash xs) parts.0 (plain_front xs ys parts.1)

base_plain : (ext name : List ℕ) → list_any is_slash name ≡ false → list_any is_slash (base_of ext name) ≡ false
base_plain ext name plain = go (ends_with ext name)
  where
    go : (b : Bool) → list_any is_slash (cond b (take (length name - length ext) name) name) ≡ false
    go true = plain_front (take (length name - length ext) name) (drop (length name - length ext) name) (ap (list_any is_slash) (take-append-drop (length name - length ext) name) ∙ plain)
    go false = plain

-- together they have the digits of the name, or more
base_digits : (ext name : List ℕ) → digits name ≤ digits (base_of ext name) + digits ext
base_digits ext name = go (ends_with ext name) refl
  where
    go : (b : Bool) → ends_with ext name ≡ b → digits name ≤ digits (cond b (take (length name - length ext) name) name) + digits ext
    go true e =
        let end : drop (length name - length ext) name ≡ ext = (bytes_eq-Decides (drop (length name - length ext) name) ext).0 (and_parts (nat_le (length ext) (length name)) (bytes_eq (drop (length name - length ext) name) ext) e).1 in
        let whole : digits (take (length name - length ext) name ++ drop (length name - length ext) name) ≡ digits (take (length name - length ext) name) + digits (drop (length name - length ext) name) =
        digits_on (take (length name - length ext) name) (drop (length name - length ext) name) in
        let same : digits (take (length name - length ext) name ++ drop (length name - length ext) name) ≡ digits name = ap digits (take-append-drop (length name - length ext) name) in
        let behind : digits (drop (length name - length ext) name) ≡ digits ext = ap digits end in
        omega (arith, whole, same, behind)
    go false e = omega arith

extension_plain : (ext : List ℕ) → is_extension ext ≡ true → list_any is_slash ext ≡ false
extension_plain ext good = not-true (list_any is_slash ext) (and_parts (not (list_any is_slash ext)) _ (and_parts (nat_le (length ext) 128) _ (and_parts (nat_le 1 (length ext)) _ good).1).1).0

ext_plain : (added given : Option (List ℕ)) (name : List ℕ) → or_none is_extension added ≡ true → or_none is_extension given ≡ true → list_any is_slash (ext_of added given name) ≡ false
ext_plain (Some ext) given name a g = extension_plain ext a
ext_plain None (Some ext) name a g = go (ends_with ext name)
  where
    go : (b : Bool) → list_any is_slash (cond b ext []) ≡ false
    go true = extension_plain ext g
    go false = refl
ext_plain None None name a g = refl

-- ---- the path where a log waits

aside_last : (log : Path) → path_fault log ≡ None → last_of (aside_path log) ≡ last_of log ++ codes ".tmp"
aside_last log path = ap last_of here ∙ last_joined (parent_of log) (last_of log ++ codes ".tmp") (plain_both (last_of log) (codes ".tmp") (last_plain log path) refl)
  where
    here : log ++ codes ".tmp" ≡ joined (parent_of log) (last_of log ++ codes ".tmp")
    here = ap (λ (x : Path). x ++ codes ".tmp") (sym (joined_parts log path)) ∙ append_assoc (cond (length (parent_of log) == 1) [] (parent_of log)) (47 ∷ last_of log) (codes ".tmp")

-- what a rule of which this is asked says of extensions and formats
pub record HasNamesPlain (r : Rule) : Type 0 where
  pub added : or_none is_extension r.addextension ≡ true
  pub extension : or_none is_extension r.extension ≡ true
  pub dated : or_none is_format r.dated ≡ true

behind : (a : Bool) {b : Bool} → (a && b) ≡ true → b ≡ true
behind true h = h
behind false h = absurd (cc)

names_plain : (r : Rule) → meets_limits r ≡ true → HasNamesPlain r
names_plain r h =
    let sizes = behind (or_none is_size r.minsize) (behind (or_none is_small r.minage) (behind (or_none is_small r.maxage) (behind (is_count r.count) (behind (is_criterion r.criterion) (behind (list_all is_log_word r.words) h))))) in
    let given = behind (is_small r.start) (behind (or_none is_size r.maxsize) sizes) in
    let more = behind (or_none is_extension r.extension) given in
    let rest = behind (or_none is_address r.mail) (behind (is_make r.create) (behind (is_make r.createolddir) (behind (or_none is_olddir r.olddir) (behind (or_none is_extension r.addextension) more)))) in
    record { added = first_true (or_none is_extension r.addextension) _ more; extension = first_true (or_none is_extension r.extension) _ given; dated = rest }

module _ (r : Rule) (log : Path) (path : path_fault log ≡ None) (good : HasNamesPlain r) where
  abbrev n : Naming
  n = naming_of r log

  none_so : (middle : List ℕ) → list_any is_slash middle ≡ false → 0 < digits middle → aside_path log ≡ joined n.dir (n.base ++ middle ++ n.ext) → ⊥
  none_so middle plain some same =
      let name_plain : list_any is_slash (n.base ++ middle ++ n.ext) ≡ false =
      plain_both (n.base ++ middle) n.ext (plain_both n.base middle (base_plain n.ext (last_of log) (last_plain log path)) plain) (ext_plain r.addextension r.extension (last_of log) good.added good.extension) in
      let e : last_of log ++ codes ".tmp" ≡ n.base ++ middle ++ n.ext = sym (aside_last log path) ∙ (ap last_of same ∙ last_joined n.dir (n.base ++ middle ++ n.ext) name_plain) in
      let left : digits (last_of log ++ codes ".tmp") ≡ digits (last_of log) + 0 = digits_on (last_of log) (codes ".tmp") in
      let right : digits (n.base ++ middle ++ n.ext) ≡ digits (n.base ++ middle) + digits n.ext = digits_on (n.base ++ middle) n.ext in
      let front : digits (n.base ++ middle) ≡ digits n.base + digits middle = digits_on n.base middle in
      let base : digits (last_of log) ≤ digits n.base + digits n.ext = base_digits n.ext (last_of log) in
      let equal : digits (last_of log ++ codes ".tmp") ≡ digits (n.base ++ middle ++ n.ext) = ap digits e in
      omega (arith, left, right, front, base, equal, some)

  numbered_none : (place : ℕ) → IsMemberAt n place (aside_path log) → ⊥
  numbered_none place m = none_so (46 ∷ decimal (n.start + place)) (decimal_plain (n.start + place) small) some m.named
    where
      small : n.start + place < 2 ^ 64
      small = let b : n.start + place ≤ 4294967295 = m.bound in omega arith

      some : 0 < digits (46 ∷ decimal (n.start + place))
      some =
          let run = decimal_run (n.start + place) small in
          let all : digits (decimal (n.start + place)) ≡ length (decimal (n.start + place)) = all_digits (decimal (n.start + place)) run.1 in
          let long : 0 < length (decimal (n.start + place)) = run.0 in
          omega (arith, all, long)

  dated_none : (seconds : ℤ) (serial : ℕ) → IsDatedAt n seconds serial (aside_path log) → ⊥
  dated_none seconds serial at = none_so at.middle (middle_plain at.format at.middle format shape) (middle_digits at.format at.middle format shape) at.named
    where
      format : is_format at.format ≡ true
      format = subst (λ (d : Option Format). or_none is_format d ≡ true) at.dated good.dated

      shape : IsMiddleShape (Some at.format) at.middle
      shape = numbered_shape at.format seconds serial at.middle at.is

pub no_numbered : (r : Rule) (log : Path) (place : ℕ) → path_fault log ≡ None → meets_limits r ≡ true → IsMemberAt (naming_of r log) place (aside_path log) → ⊥
no_numbered r log place path good m = numbered_none r log path (names_plain r good) place m

pub no_dated : (r : Rule) (log : Path) (seconds : ℤ) (serial : ℕ) → path_fault log ≡ None → meets_limits r ≡ true → IsDatedAt (naming_of r log) seconds serial (aside_path log) → ⊥
no_dated r log seconds serial path good at = dated_none r log path (names_plain r good) seconds serial at
