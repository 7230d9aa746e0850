-- The path of a name in a directory: only the name and the length can keep it from being one.
use Rattle.std.proofs.Common.{◌≡◌, ◌<◌, ◌+◌, ℕ, zero, suc, Bool, true, false, not, cond, ◌||◌, List, [], ◌∷◌, ◌++◌, length, drop, get_or, Option, Some, None, refl, sym, ap, ◌∙◌, subst, arith, length-append, nat_lt, nat_eq, lit<}
use Rattle.std.specs.Prelude.{IsUtf8}
use Rattle.std.specs.List.{list_any, slice_split}
use Rattle.std.specs.Str.{is_utf8}
use Rattle.std.proofs.lemmas.Bool.{false_from_ne_true}
use Rattle.std.proofs.lemmas.Bool.Decides.{Decides-eqb}
use Rattle.std.proofs.lemmas.List.Folds.{list_any-append}
use Rattle.std.proofs.lemmas.Str.{IsUtf8-from_is_utf8, is_utf8-from_IsUtf8, IsUtf8-append, IsUtf8-drop, IsUtf8-nil, IsUtf8-from_ascii, IsCharBoundary-after_ascii}
use Rattle.lr_rules.specs.declared.path.PathFault.{PathFault}
use Rattle.lr_rules.specs.declared.path.PathFault.TheVariants as fault
use Rattle.lr_rules.specs.Path.{path_fault, has_bad_byte, has_empty_part, has_dot_part, is_absolute, is_bad_byte, is_slash, is_empty, is_dots, joined}
use Rattle.lr_rules.proofs.PathLemmas.{at_slash, no_text, drop_front}
use Rattle.lr_rules.proofs.ParentPath.{is_path, split_both}

-- ---- behind a front of which nothing is wrong

slash_utf8 : IsUtf8 (47 ∷ [])
slash_utf8 = IsUtf8-from_ascii (47 ∷ []) ascii
  where
    ascii : (i : ℕ) → get_or (47 ∷ []) i 0 < 128
    ascii zero = lit< tt
    ascii (suc i) = lit< tt

behind_front : (front n : List ℕ) → drop (length front + 1) (front ++ 47 ∷ n) ≡ n
behind_front front n =
    let e : length front + 1 ≡ suc (length front) = omega arith in
    ap (λ k. drop k (front ++ 47 ∷ n)) e ∙ drop_front front n

name_utf8 : (front n : List ℕ) → is_utf8 (front ++ 47 ∷ n) ≡ true → is_utf8 n ≡ true
name_utf8 front n h =
    let utf8 = IsUtf8-from_is_utf8 (front ++ 47 ∷ n) h in
    let size = length-append front (47 ∷ n) in
    let slash = at_slash front n in
    is_utf8-from_IsUtf8 n (subst IsUtf8 (behind_front front n)
    (IsUtf8-drop (front ++ 47 ∷ n) (length front + 1) utf8 (IsCharBoundary-after_ascii (front ++ 47 ∷ n) (length front) utf8 (omega arith) (omega arith))))

text_behind : (front n : List ℕ) → is_utf8 front ≡ true → is_utf8 (front ++ 47 ∷ n) ≡ is_utf8 n
text_behind front n h = go (is_utf8 n) refl
  where
    go : (b : Bool) → is_utf8 n ≡ b → is_utf8 (front ++ 47 ∷ n) ≡ b
    go true e = is_utf8-from_IsUtf8 (front ++ 47 ∷ n) (IsUtf8-append front (47 ∷ n) (IsUtf8-from_is_utf8 front h) (IsUtf8-append (47 ∷ []) n slash_utf8 (IsUtf8-from_is_utf8 n e)))
    go false e = false_from_ne_true (is_utf8 (front ++ 47 ∷ n)) (λ t. let two = name_utf8 front n t in absurd (cc))

any_behind : {A : Type 0} (f : A → Bool) (xs ys : List A) → list_any f xs ≡ false → list_any f (xs ++ ys) ≡ list_any f ys
any_behind f xs ys h = list_any-append f xs ys ∙ ap (λ b. b || list_any f ys) h

parts_behind : (f : List ℕ → Bool) (xs n : List ℕ) → list_any f (slice_split is_slash xs) ≡ false
    → list_any f (slice_split is_slash (xs ++ 47 ∷ n)) ≡ list_any f (slice_split is_slash n)
parts_behind f xs n h = ap (list_any f) (split_both xs n) ∙ any_behind f (slice_split is_slash xs) (slice_split is_slash n) h

-- ---- a directory, which is the front unless it is `/`

-- what the tests of a path come to
record Tests (path n : List ℕ) (lacking : Bool) : Type 0 where
  text : is_utf8 path ≡ is_utf8 n
  bytes : has_bad_byte path ≡ has_bad_byte n
  absolute : is_absolute path ≡ true
  full : has_empty_part path ≡ lacking
  dots : has_dot_part path ≡ list_any is_dots (slice_split is_slash n)

-- a part is empty: nothing may stand behind `/` itself
abbrev lacks : Bool → List ℕ → Bool
lacks root [] = not root
lacks root (c ∷ cs) = list_any is_empty (slice_split is_slash (c ∷ cs))

lacks_root : (n : List ℕ) → has_empty_part (47 ∷ n) ≡ lacks true n
lacks_root [] = refl
lacks_root (c ∷ cs) = refl

lacks_other : (n : List ℕ) → list_any is_empty (slice_split is_slash n) ≡ lacks false n
lacks_other [] = refl
lacks_other (c ∷ cs) = refl

tests_by : (dir n : List ℕ) (b : Bool) → nat_eq (length dir) 1 ≡ b → path_fault dir ≡ None → Tests (cond b [] dir ++ 47 ∷ n) n (lacks b n)
tests_by dir n true e none = record {
  text = text_behind [] n (is_utf8-from_IsUtf8 [] IsUtf8-nil);
  bytes = refl;
  absolute = refl;
  full = lacks_root n;
  dots = refl;
}
tests_by [] n false e none = let a = (is_path [] none).absolute in absurd (cc)
tests_by (x ∷ []) n false e none = absurd (cc)
tests_by (x ∷ y ∷ zs) n false e none =
    let p = is_path (x ∷ y ∷ zs) none in
    record {
      text = text_behind (x ∷ y ∷ zs) n p.text;
      bytes = any_behind is_bad_byte (x ∷ y ∷ zs) (47 ∷ n) p.bytes;
      absolute = p.absolute;
      full = parts_behind is_empty (y ∷ zs) n p.full ∙ lacks_other n;
      dots = parts_behind is_dots (y ∷ zs) n p.no_dots;
    }

tests_of : (dir n : List ℕ) → path_fault dir ≡ None → Tests (joined dir n) n (lacks (nat_eq (length dir) 1) n)
tests_of dir n none = tests_by dir n (nat_eq (length dir) 1) refl none

-- nothing stands behind the directory
pub empty_at_end : (dir n : List ℕ) → path_fault dir ≡ None → nat_eq (length n) 0 ≡ true → not (nat_eq (length dir) 1) ≡ has_empty_part (joined dir n)
empty_at_end dir [] none is = sym (tests_of dir [] none).full
empty_at_end dir (c ∷ cs) none is = let e : length (c ∷ cs) ≡ 0 = (Decides-eqb (length (c ∷ cs)) 0).0 is in absurd (omega arith)

-- something does
pub empty_in_name : (dir n : List ℕ) → path_fault dir ≡ None → nat_eq (length n) 0 ≡ false → list_any is_empty (slice_split is_slash n) ≡ has_empty_part (joined dir n)
empty_in_name dir [] none some = absurd (cc)
empty_in_name dir (c ∷ cs) none some = sym (tests_of dir (c ∷ cs) none).full

-- the first thing that keeps the path of a text from being one
abbrev pub text_fault : List ℕ → List ℕ → Option PathFault
text_fault dir n =
    cond (has_bad_byte n) (Some fault.BadByte)
    (cond (nat_lt 4096 (length (joined dir n))) (Some fault.TooLong)
    (cond (has_empty_part (joined dir n)) (Some fault.EmptyPart)
    (cond (list_any is_dots (slice_split is_slash n)) (Some fault.DotPart) None)))

pub fault_is : (dir n : List ℕ) (r : Option PathFault) → path_fault dir ≡ None → IsUtf8 n → r ≡ text_fault dir n → r ≡ path_fault (joined dir n)
unfolding path_fault
fault_is dir n r none utf8 is =
    let t = tests_of dir n none in
    let text : is_utf8 (joined dir n) ≡ true = t.text ∙ is_utf8-from_IsUtf8 n utf8 in
    is ∙ sym (simp (text, t.bytes, t.absolute, t.dots))

-- what is joined is no text, as the name is none
pub fault_no_text : (dir n : List ℕ) → path_fault dir ≡ None → (IsUtf8 n → ⊥) → path_fault (joined dir n) ≡ Some fault.NotUtf8
fault_no_text dir n none refused =
    let t = tests_of dir n none in
    no_text (joined dir n) (λ h. refused (IsUtf8-from_is_utf8 n (sym t.text ∙ is_utf8-from_IsUtf8 (joined dir n) h)))

pub joined_long : (dir name : List ℕ) → nat_eq (length dir) 1 ≡ false → joined dir name ≡ dir ++ 47 ∷ name
joined_long dir name more = ap (λ b. cond b [] dir ++ 47 ∷ name) more
