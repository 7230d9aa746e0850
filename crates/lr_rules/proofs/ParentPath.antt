-- The directory of a path is a path.
use Rattle.std.proofs.Common.{◌≡◌, ℕ, zero, suc, ◌-◌, ◌<◌, Bool, true, false, not, cond, List, [], ◌∷◌, ◌++◌, length, take, get_or, Option, Some, None, refl, ap, ◌∙◌, subst, sym, arith, length-append, nat_lt, lit<}
use Rattle.std.proofs.lemmas.Bool.{not-false, or_parts}
use Rattle.std.proofs.lemmas.Bool.Decides.{nat_tests}
use Rattle.std.specs.List.{list_any, slice_split, onto_first}
use Rattle.std.proofs.lemmas.List.{take_at}
use Rattle.std.proofs.lemmas.List.Folds.{list_any-append}
use Rattle.std.proofs.lemmas.List.Splits.{length-slice_split}
use Rattle.std.specs.Prelude.{IsUtf8}
use Rattle.std.specs.Str.{is_utf8}
use Rattle.std.proofs.lemmas.Str.{IsUtf8-from_is_utf8, is_utf8-from_IsUtf8, IsUtf8-take, IsUtf8-from_ascii, IsCharBoundary-before_ascii}
use Rattle.lr_rules.specs.declared.path.PathFault.{PathFault}
use Rattle.lr_rules.specs.Path.{path_fault, is_slash, is_bad_byte, is_absolute, parent_of, has_bad_byte, has_empty_part, has_dot_part, is_empty, is_dots}
use Rattle.lr_rules.proofs.PathLemmas.{last_start_is, cut_of, none_of, at_slash, parent_front, absolute_has_slash}

-- ---- the parts before a slash

any_front : {A : Type 0} (f : A → Bool) (xs ys : List A) → list_any f (xs ++ ys) ≡ false → list_any f xs ≡ false
any_front f xs ys h = (or_parts (list_any f xs) (list_any f ys) (sym (list_any-append f xs ys) ∙ h)).0

onto_front : (x : ℕ) (ps qs : List (List ℕ)) → 0 < length ps → onto_first x (ps ++ qs) ≡ onto_first x ps ++ qs
onto_front x [] qs some = absurd (omega arith)
onto_front x (p ∷ ps) qs some = refl

pub split_both : (xs ys : List ℕ) → slice_split is_slash (xs ++ 47 ∷ ys) ≡ slice_split is_slash xs ++ slice_split is_slash ys
split_both [] ys = refl
split_both (x ∷ xs) ys = go (is_slash x) (slice_split is_slash (xs ++ 47 ∷ ys)) (split_both xs ys)
  where
    some : 0 < length (slice_split is_slash xs)
    some = omega (arith, length-slice_split is_slash xs)

    go : (b : Bool) (all : List (List ℕ)) → all ≡ slice_split is_slash xs ++ slice_split is_slash ys
        → cond b ([] ∷ all) (onto_first x all) ≡ cond b ([] ∷ slice_split is_slash xs) (onto_first x (slice_split is_slash xs)) ++ slice_split is_slash ys
    go true all e = ap (λ ps. [] ∷ ps) e
    go false all e = ap (onto_first x) e ∙ onto_front x (slice_split is_slash xs) (slice_split is_slash ys) some

parts_front : (f : List ℕ → Bool) (xs ys : List ℕ) → list_any f (slice_split is_slash (xs ++ 47 ∷ ys)) ≡ false → list_any f (slice_split is_slash xs) ≡ false
parts_front f xs ys h = any_front f (slice_split is_slash xs) (slice_split is_slash ys) (sym (ap (list_any f) (split_both xs ys)) ∙ h)

-- ---- what stands before a slash of a path

none_by : (b : Bool) (f : PathFault) (rest : Option PathFault) → b ≡ false → rest ≡ None → cond b (Some f) rest ≡ None
none_by true f rest h r = absurd (cc)
none_by false f rest h r = r

-- all that keeps bytes from being a path is absent
pub record IsPath (bs : List ℕ) : Type 0 where
  pub text : is_utf8 bs ≡ true
  pub bytes : has_bad_byte bs ≡ false
  pub size : nat_lt 4096 (length bs) ≡ false
  pub absolute : is_absolute bs ≡ true
  pub full : has_empty_part bs ≡ false
  pub no_dots : has_dot_part bs ≡ false

pub is_path : (bs : List ℕ) → path_fault bs ≡ None → IsPath bs
unfolding path_fault
is_path bs none =
    let text = none_of (not (is_utf8 bs)) _ _ none in
    let bytes = none_of (has_bad_byte bs) _ _ text.1 in
    let size = none_of (nat_lt 4096 (length bs)) _ _ bytes.1 in
    let relative = none_of (not (is_absolute bs)) _ _ size.1 in
    let full = none_of (has_empty_part bs) _ _ relative.1 in
    let dots = none_of (has_dot_part bs) _ _ full.1 in
    record { text = not-false (is_utf8 bs) text.0; bytes = bytes.0; size = size.0; absolute = not-false (is_absolute bs) relative.0; full = full.0; no_dots = dots.0 }

has_none : (bs : List ℕ) → IsPath bs → path_fault bs ≡ None
unfolding path_fault
has_none bs p =
    none_by (not (is_utf8 bs)) _ _ (ap not p.text)
    (none_by (has_bad_byte bs) _ _ p.bytes
    (none_by (nat_lt 4096 (length bs)) _ _ p.size
    (none_by (not (is_absolute bs)) _ _ (ap not p.absolute)
    (none_by (has_empty_part bs) _ _ p.full
    (none_by (has_dot_part bs) _ _ p.no_dots refl)))))

text_front : (front n : List ℕ) → is_utf8 (front ++ 47 ∷ n) ≡ true → is_utf8 front ≡ true
text_front front n h =
    let size = length-append front (47 ∷ n) in
    let slash = at_slash front n in
    is_utf8-from_IsUtf8 front (subst IsUtf8 (take_at front (47 ∷ n) (length front) refl)
    (IsUtf8-take (front ++ 47 ∷ n) (length front) (IsUtf8-from_is_utf8 (front ++ 47 ∷ n) h) (IsCharBoundary-before_ascii (front ++ 47 ∷ n) (length front) (omega arith) (omega arith))))

not_longer : (a b : ℕ) → a < b → nat_lt 4096 b ≡ false → nat_lt 4096 a ≡ false
not_longer a b le h = grind (arith, nat_tests)

full_front : (x : ℕ) (xs n : List ℕ) → has_empty_part ((x ∷ xs) ++ 47 ∷ n) ≡ false → has_empty_part (x ∷ xs) ≡ false
full_front x [] n h = refl
full_front x (y ∷ ys) n h = parts_front is_empty (y ∷ ys) n h

path_front : (front n : List ℕ) → 0 < length front → path_fault (front ++ 47 ∷ n) ≡ None → path_fault front ≡ None
path_front [] n some none = absurd (omega arith)
path_front (x ∷ xs) n some none =
    let p = is_path ((x ∷ xs) ++ 47 ∷ n) none in
    let longer = length-append (x ∷ xs) (47 ∷ n) in
    has_none (x ∷ xs) (record {
      text = text_front (x ∷ xs) n p.text;
      bytes = any_front is_bad_byte (x ∷ xs) (47 ∷ n) p.bytes;
      size = not_longer (length (x ∷ xs)) (length ((x ∷ xs) ++ 47 ∷ n)) (omega arith) p.size;
      absolute = p.absolute;
      full = full_front x xs n p.full;
      no_dots = parts_front is_dots xs n p.no_dots;
    })

-- ---- the directory

root_path : path_fault (47 ∷ []) ≡ None
root_path = has_none (47 ∷ []) (record { text = is_utf8-from_IsUtf8 (47 ∷ []) (IsUtf8-from_ascii (47 ∷ []) ascii); bytes = refl; size = refl; absolute = refl; full = refl; no_dots = refl })
  where
    ascii : (i : ℕ) → get_or (47 ∷ []) i 0 < 128
    ascii zero = lit< tt
    ascii (suc i) = lit< tt

by_front : (front n : List ℕ) → list_any is_slash n ≡ false → path_fault (front ++ 47 ∷ n) ≡ None → path_fault (parent_of (front ++ 47 ∷ n)) ≡ None
by_front [] n plain none =
    ap (λ k. path_fault (cond (nat_lt 1 k) (take (k - 1) (47 ∷ n)) (take k (47 ∷ n)))) (last_start_is [] n plain) ∙ root_path
by_front (x ∷ xs) n plain none =
    let absolute : is_absolute (x ∷ xs) ≡ true = (is_path ((x ∷ xs) ++ 47 ∷ n) none).absolute in
    ap path_fault (parent_front (x ∷ xs) n absolute plain) ∙ path_front (x ∷ xs) n (omega arith) none

-- the directory of a path is a path
pub parent_path : (bs : List ℕ) → path_fault bs ≡ None → path_fault (parent_of bs) ≡ None
parent_path bs none =
    let c = cut_of bs (absolute_has_slash bs (is_path bs none).absolute) in
    subst (λ p. path_fault (parent_of p) ≡ None) (sym c.is) (by_front c.front c.last c.plain (subst (λ p. path_fault p ≡ None) c.is none))
