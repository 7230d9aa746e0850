-- A path with an ending behind it is a path, in the same directory.
use Rattle.std.proofs.Common.{◌≡◌, ◌≤◌, ◌<◌, ◌+◌, ◌-◌, ℕ, zero, suc, Bool, true, false, not, cond, List, [], ◌∷◌, ◌++◌, length, take, Some, None, refl, sym, ap, ◌∙◌, arith, length-append, append_assoc, nat_lt}
use Rattle.std.specs.Prelude.{IsUtf8}
use Rattle.std.specs.List.{list_any, list_all, slice_split, onto_first}
use Rattle.std.specs.Str.{is_utf8, IsAscii}
use Rattle.std.proofs.lemmas.Bool.{and_parts, or_parts, or_from, lt-ltb, le-ltb, not-false}
use Rattle.std.proofs.lemmas.Bool.Decides.{Decides-ltb}
use Rattle.std.proofs.lemmas.List.{take_at}
use Rattle.std.proofs.lemmas.List.Folds.{list_any-append}
use Rattle.std.proofs.lemmas.List.Splits.{slice_split-cons_yes, slice_split-cons_no, length-slice_split}
use Rattle.std.proofs.lemmas.Str.{IsUtf8-from_is_utf8, is_utf8-from_IsUtf8, IsUtf8-append}
use Rattle.lr_rules.specs.declared.path.PathFault.{PathFault}
use Rattle.lr_rules.specs.declared.path.PathFault.TheVariants as fault
use Rattle.lr_rules.specs.Path.{path_fault, has_bad_byte, has_empty_part, has_dot_part, is_absolute, is_bad_byte, is_slash, is_empty, is_dots, parent_of, IsRefusal}
use Rattle.lr_rules.proofs.PathLemmas.{none_of, plain_both, cut_of, absolute_has_slash, last_start_is, absolute}

-- What may stand behind a path: a text of at least three bytes, without a slash, a newline and a zero byte.
pub record IsEnding (ending : List ℕ) : Type 0 where
  pub long : 3 ≤ length ending
  pub text : IsUtf8 ending
  pub plain : list_any is_slash ending ≡ false
  pub good : has_bad_byte ending ≡ false

-- ---- the parts of a path, of which the last one is longer

onto_none : (xs : List ℕ) → list_any is_slash xs ≡ false → slice_split is_slash xs ≡ xs ∷ []
onto_none [] h = refl
onto_none (x ∷ xs) h = let t = or_parts (is_slash x) (list_any is_slash xs) h in slice_split-cons_no is_slash x xs t.0 ∙ ap (onto_first x) (onto_none xs t.1)

long_full : (xs : List ℕ) → 3 ≤ length xs → is_empty xs ≡ false
long_full [] h = absurd (omega arith)
long_full (x ∷ xs) h = refl

long_no_dots : (xs : List ℕ) → 3 ≤ length xs → is_dots xs ≡ false
long_no_dots [] h = absurd (omega arith)
long_no_dots (a ∷ []) h = absurd (omega arith)
long_no_dots (a ∷ b ∷ []) h = absurd (omega arith)
long_no_dots (a ∷ b ∷ c ∷ xs) h = refl

no_fault : (a b c d e f : Bool) → a ≡ false → b ≡ false → c ≡ false → d ≡ false → e ≡ false → f ≡ false
    → cond a (Some fault.NotUtf8) (cond b (Some fault.BadByte) (cond c (Some fault.TooLong) (cond d (Some fault.Relative) (cond e (Some fault.EmptyPart) (cond f (Some fault.DotPart) None))))) ≡ None
no_fault false false false false false false p q r s t u = refl
no_fault true b c d e f p q r s t u = absurd (cc)
no_fault false true c d e f p q r s t u = absurd (cc)
no_fault false false true d e f p q r s t u = absurd (cc)
no_fault false false false true e f p q r s t u = absurd (cc)
no_fault false false false false true f p q r s t u = absurd (cc)
no_fault false false false false false true p q r s t u = absurd (cc)

behind_root : (b : ℕ) (e : List ℕ) → list_any is_empty (slice_split is_slash e) ≡ false → has_empty_part (b ∷ e) ≡ false
behind_root b [] h = refl
behind_root b (c ∷ cs) h = h

module _ (ending : List ℕ) (is : IsEnding ending) where
  abbrev on_last : List (List ℕ) → List (List ℕ)
  on_last [] = []
  on_last (f ∷ []) = (f ++ ending) ∷ []
  on_last (f ∷ g ∷ r) = f ∷ on_last (g ∷ r)

  behind_first : (f : List ℕ) (parts : List (List ℕ)) → 0 < length parts → f ∷ on_last parts ≡ on_last (f ∷ parts)
  behind_first f [] some = absurd (omega arith)
  behind_first f (g ∷ r) some = refl

  in_first : (x : ℕ) (parts : List (List ℕ)) → 0 < length parts → onto_first x (on_last parts) ≡ on_last (onto_first x parts)
  in_first x [] some = absurd (omega arith)
  in_first x (f ∷ []) some = refl
  in_first x (f ∷ g ∷ r) some = refl

  split_more : (xs : List ℕ) → slice_split is_slash (xs ++ ending) ≡ on_last (slice_split is_slash xs)
  split_more [] = onto_none ending is.plain
  split_more (x ∷ xs) = go (is_slash x) refl (split_more xs) (omega (arith, length-slice_split is_slash xs))
    where
      go : (b : Bool) → is_slash x ≡ b → slice_split is_slash (xs ++ ending) ≡ on_last (slice_split is_slash xs) → 0 < length (slice_split is_slash xs) → slice_split is_slash (x ∷ (xs ++ ending)) ≡ on_last (slice_split is_slash (x ∷ xs))
      go true e r some = slice_split-cons_yes is_slash x (xs ++ ending) e ∙ (ap (λ (l : List (List ℕ)). [] ∷ l) r ∙ (behind_first [] (slice_split is_slash xs) some ∙ ap on_last (sym (slice_split-cons_yes is_slash x xs e))))
      go false e r some = slice_split-cons_no is_slash x (xs ++ ending) e ∙ (ap (onto_first x) r ∙ (in_first x (slice_split is_slash xs) some ∙ ap on_last (sym (slice_split-cons_no is_slash x xs e))))

  none_more : (p : List ℕ → Bool) → ((f : List ℕ) → p (f ++ ending) ≡ false) → (parts : List (List ℕ)) → list_any p parts ≡ false → list_any p (on_last parts) ≡ false
  none_more p not_p [] h = refl
  none_more p not_p (f ∷ []) h = or_from (p (f ++ ending)) false (not_p f) refl
  none_more p not_p (f ∷ g ∷ r) h = let t = or_parts (p f) (list_any p (g ∷ r)) h in or_from (p f) (list_any p (on_last (g ∷ r))) t.0 (none_more p not_p (g ∷ r) t.1)

  longer : (f : List ℕ) → 3 ≤ length (f ++ ending)
  longer f = omega (arith, length-append f ending, is.long)

  no_empty : (bs : List ℕ) → is_absolute bs ≡ true → has_empty_part bs ≡ false → has_empty_part (bs ++ ending) ≡ false
  no_empty [] a h = absurd (cc)
  no_empty (b ∷ []) a h = behind_root b ending (ap (list_any is_empty) (onto_none ending is.plain) ∙ or_from (is_empty ending) false (long_full ending is.long) refl)
  no_empty (b ∷ c ∷ cs) a h = ap (list_any is_empty) (split_more (c ∷ cs)) ∙ none_more is_empty (λ f. long_full (f ++ ending) (longer f)) (slice_split is_slash (c ∷ cs)) h

  no_dots : (bs : List ℕ) → is_absolute bs ≡ true → has_dot_part bs ≡ false → has_dot_part (bs ++ ending) ≡ false
  no_dots [] a h = absurd (cc)
  no_dots (b ∷ bs) a h = ap (list_any is_dots) (split_more bs) ∙ none_more is_dots (λ f. long_no_dots (f ++ ending) (longer f)) (slice_split is_slash bs) h

  still_absolute : (bs : List ℕ) → is_absolute bs ≡ true → is_absolute (bs ++ ending) ≡ true
  still_absolute [] a = absurd (cc)
  still_absolute (b ∷ bs) a = a

  -- it is a path, where it isn't too long
  pub ended_path : (bs : List ℕ) → path_fault bs ≡ None → length bs + length ending ≤ 4096 → path_fault (bs ++ ending) ≡ None
  unfolding path_fault
  ended_path bs none short =
      let text = none_of (not (is_utf8 bs)) _ _ none in
      let bytes = none_of (has_bad_byte bs) _ _ text.1 in
      let size = none_of (nat_lt 4096 (length bs)) _ _ bytes.1 in
      let start = none_of (not (is_absolute bs)) _ _ size.1 in
      let full = none_of (has_empty_part bs) _ _ start.1 in
      let dots = none_of (has_dot_part bs) _ _ full.1 in
      let absolute : is_absolute bs ≡ true = not-false (is_absolute bs) start.0 in
      let utf8 : is_utf8 (bs ++ ending) ≡ true = is_utf8-from_IsUtf8 (bs ++ ending) (IsUtf8-append bs ending (IsUtf8-from_is_utf8 bs (not-false (is_utf8 bs) text.0)) is.text) in
      no_fault _ _ _ _ _ _ (ap not utf8) (list_any-append is_bad_byte bs ending ∙ or_from (list_any is_bad_byte bs) (list_any is_bad_byte ending) bytes.0 is.good) (le-ltb 4096 (length (bs ++ ending)) (omega (arith, length-append bs ending)))
      (ap not (still_absolute bs absolute)) (no_empty bs absolute full.0) (no_dots bs absolute dots.0)

-- a refusal is want of memory
pub path_unrefused : (bs : List ℕ) (why : PathFault) → path_fault bs ≡ None → IsRefusal (path_fault bs) why → why ≡ fault.Memory
path_unrefused bs fault.Memory none refused = refl
path_unrefused bs fault.NotUtf8 none refused = absurd (cc)
path_unrefused bs fault.BadByte none refused = absurd (cc)
path_unrefused bs fault.TooLong none refused = absurd (cc)
path_unrefused bs fault.Relative none refused = absurd (cc)
path_unrefused bs fault.EmptyPart none refused = absurd (cc)
path_unrefused bs fault.DotPart none refused = absurd (cc)

-- ---- its directory

front_of : (front n m : List ℕ) → cond (nat_lt 1 (length front + 1)) (take (length front + 1 - 1) (front ++ 47 ∷ n)) (take (length front + 1) (front ++ 47 ∷ n))
    ≡ cond (nat_lt 1 (length front + 1)) (take (length front + 1 - 1) (front ++ 47 ∷ m)) (take (length front + 1) (front ++ 47 ∷ m))
front_of [] n m = refl
front_of (x ∷ xs) n m =
    let size : length (x ∷ xs) + 1 - 1 ≡ length (x ∷ xs) = omega arith in
    let more : nat_lt 1 (length (x ∷ xs) + 1) ≡ true = lt-ltb 1 (length (x ∷ xs) + 1) (omega arith) in
    let one = ap (λ b. cond b (take (length (x ∷ xs) + 1 - 1) ((x ∷ xs) ++ 47 ∷ n)) (take (length (x ∷ xs) + 1) ((x ∷ xs) ++ 47 ∷ n))) more
    ∙ (ap (λ k. take k ((x ∷ xs) ++ 47 ∷ n)) size ∙ take_at (x ∷ xs) (47 ∷ n) (length (x ∷ xs)) refl) in
    let other = ap (λ b. cond b (take (length (x ∷ xs) + 1 - 1) ((x ∷ xs) ++ 47 ∷ m)) (take (length (x ∷ xs) + 1) ((x ∷ xs) ++ 47 ∷ m))) more
    ∙ (ap (λ k. take k ((x ∷ xs) ++ 47 ∷ m)) size ∙ take_at (x ∷ xs) (47 ∷ m) (length (x ∷ xs)) refl) in
    one ∙ sym other

same_parent : (front n m : List ℕ) → list_any is_slash n ≡ false → list_any is_slash m ≡ false → parent_of (front ++ 47 ∷ n) ≡ parent_of (front ++ 47 ∷ m)
same_parent front n m p q =
    ap (λ k. cond (nat_lt 1 k) (take (k - 1) (front ++ 47 ∷ n)) (take k (front ++ 47 ∷ n))) (last_start_is front n p)
    ∙ (front_of front n m ∙ sym (ap (λ k. cond (nat_lt 1 k) (take (k - 1) (front ++ 47 ∷ m)) (take k (front ++ 47 ∷ m))) (last_start_is front m q)))

pub ended_parent : (ending bs : List ℕ) → list_any is_slash ending ≡ false → path_fault bs ≡ None → parent_of (bs ++ ending) ≡ parent_of bs
ended_parent ending bs plain none =
    let c = cut_of bs (absolute_has_slash bs (absolute bs none)) in
    ap (λ (x : List ℕ). parent_of (x ++ ending)) c.is
    ∙ (ap parent_of (append_assoc c.front (47 ∷ c.last) ending)
    ∙ (same_parent c.front (c.last ++ ending) c.last (plain_both c.last ending c.plain plain) c.plain ∙ ap parent_of (sym c.is)))

-- bytes below 128 are a text
pub low_ascii : (bs : List ℕ) → list_all (λ b. nat_lt b 128) bs ≡ true → IsAscii bs
low_ascii [] h i = omega arith
low_ascii (b ∷ bs) h zero = (Decides-ltb b 128).0 (and_parts (nat_lt b 128) (list_all (λ c. nat_lt c 128) bs) h).0
low_ascii (b ∷ bs) h (suc i) = low_ascii bs (and_parts (nat_lt b 128) (list_all (λ c. nat_lt c 128) bs) h).1 i
