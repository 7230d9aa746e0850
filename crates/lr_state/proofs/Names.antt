-- Names in front of lines: the reader's steps and the grammar agree.
use Rattle.std.proofs.Common.{◌≡◌, ◌∙◌, ap, sym, subst, refl, ℕ, Bool, true, false, not, ◌||◌, ◌==◌, cond, List, [], ◌∷◌, ◌++◌, take, map, Option, Some, None, append_assoc, ◌⊎◌, inl, inr}
use Rattle.std.specs.List.{list_all, flat_map}
use Rattle.std.proofs.lemmas.Bool.{and_parts, and_from, or_parts, not-true, eqb-true, cond-true, cond-false}
use Rattle.lr_rules.specs.Bytes.{is_blank, is_no_blank}
use Rattle.lr_state.specs.Grammar.{StateSign, spelling, is_escaped, byte_of, ends_word, IsQuoted, IsBare, BeginsWithName}
use Rattle.lr_state.specs.Table.{is_name}
use Rattle.lr_state.specs.Reading.{NameAndRest, with_byte, with_front, quoted, before, from_first, name_in, checked}

-- the list is empty, or its first byte passes
abbrev pub starts : (ℕ → Bool) → List ℕ → Bool
starts p [] = true
starts p (b ∷ bs) = p b

-- a list is cut in two at the first byte that passes
pub record IsCut (p : ℕ → Bool) (xs front back : List ℕ) : Type 0 where
  pub whole : front ++ back ≡ xs
  pub clear : list_all (λ b. not (p b)) front ≡ true
  pub stops : starts p back ≡ true

-- the name so far stands in front of what is still to be read
pub front-byte : (xs : List ℕ) (b : ℕ) (o : Option NameAndRest) → with_front (xs ++ b ∷ []) o ≡ with_front xs (with_byte b o)
front-byte xs b None = refl
front-byte xs b (Some x) = ap (λ n. Some (n, x.1)) (append_assoc xs (b ∷ []) x.0)

-- the bytes before the first that passes, and those from it on
pub cut-complete : (p q : ℕ → Bool) → ((b : ℕ) → q b ≡ true → p b ≡ false) → (xs ys : List ℕ) → list_all q xs ≡ true → starts p ys ≡ true → (before p (xs ++ ys) ≡ xs) × (from_first p (xs ++ ys) ≡ ys)
unfolding before from_first
cut-complete p q apart [] [] all at = (refl, refl)
cut-complete p q apart [] (y ∷ ys) all at = (cond-true _ _ _ at, cond-true _ _ _ at)
cut-complete p q apart (x ∷ xs) ys all at =
    let parts = and_parts (q x) (list_all q xs) all in
    let next = cut-complete p q apart xs ys parts.1 at in
    let no_cut : p x ≡ false = apart x parts.0 in
    (cond-false _ _ _ no_cut ∙ ap (λ t. x ∷ t) next.0, cond-false _ _ _ no_cut ∙ next.1)

cut_by : (p : ℕ → Bool) (x : ℕ) (xs : List ℕ) (b : Bool) → p x ≡ b → IsCut p xs (before p xs) (from_first p xs) → IsCut p (x ∷ xs) (cond b [] (x ∷ before p xs)) (cond b (x ∷ xs) (from_first p xs))
cut_by p x xs true is next = record { whole = refl; clear = refl; stops = is }
cut_by p x xs false is next = record { whole = ap (λ t. x ∷ t) next.whole; clear = and_from _ _ (ap not is) next.clear; stops = next.stops }

pub cut-sound : (p : ℕ → Bool) (xs : List ℕ) → IsCut p xs (before p xs) (from_first p xs)
unfolding before from_first
cut-sound p [] = record { whole = refl; clear = refl; stops = refl }
cut-sound p (x ∷ xs) = cut_by p x xs (p x) refl (cut-sound p xs)

-- what stands between quotes
pub record IsSpelled (text : List ℕ) (x : NameAndRest) : Type 0 where
  pub signs : List StateSign
  pub each : list_all is_escaped signs ≡ true
  pub text_is : text ≡ flat_map spelling signs ++ 34 ∷ x.1
  pub name_is : x.0 ≡ map byte_of signs

with_byte-some : (b : ℕ) (o : Option NameAndRest) (x : NameAndRest) → with_byte b o ≡ Some x → (y : NameAndRest) × (o ≡ Some y) × (x.0 ≡ b ∷ y.0) × (x.1 ≡ y.1)
with_byte-some b None x e = absurd (cc e)
with_byte-some b (Some y) x e =
    let same : (b ∷ y.0, y.1) ≡ x = cc e in
    (y, refl, sym (ap (λ (z : NameAndRest). z.0) same), sym (ap (λ (z : NameAndRest). z.1) same))

abbrev opened : Bool → List ℕ → List ℕ
opened true bs = 92 ∷ bs
opened false bs = bs

one_more : (s : StateSign) (bs : List ℕ) (x y : NameAndRest) → is_escaped s ≡ true → x.0 ≡ s.1 ∷ y.0 → x.1 ≡ y.1 → IsSpelled bs y → IsSpelled (spelling s ++ bs) x
one_more s bs x y sign name rest h = record {
  signs = s ∷ h.signs;
  each = and_from _ _ sign h.each;
  text_is = ap (λ t. spelling s ++ t) (h.text_is ∙ ap (λ t. flat_map spelling h.signs ++ 34 ∷ t) (sym rest)) ∙ sym (append_assoc (spelling s) (flat_map spelling h.signs) (34 ∷ x.1));
  name_is = name ∙ ap (λ t. s.1 ∷ t) h.name_is;
}

spelled_by : (b : ℕ) (bs : List ℕ) (x : NameAndRest) (c d : Bool) → (b == 34) ≡ c → (b == 92) ≡ d
    → cond c (Some ([], bs)) (cond d (quoted true bs) (with_byte b (quoted false bs))) ≡ Some x
    → (quoted true bs ≡ Some x → IsSpelled (92 ∷ bs) x)
    → ((y : NameAndRest) → quoted false bs ≡ Some y → IsSpelled bs y) → IsSpelled (b ∷ bs) x
spelled_by b bs x true d quote slash e escape plain =
    let same : ([], bs) ≡ x = cc e in
    record {
      signs = [];
      each = refl;
      text_is = ap (λ n. n ∷ bs) (eqb-true b 34 quote) ∙ ap (λ (z : NameAndRest). 34 ∷ z.1) same;
      name_is = sym (ap (λ (z : NameAndRest). z.0) same);
    }
spelled_by b bs x false true quote slash e escape plain = subst (λ n. IsSpelled (n ∷ bs) x) (sym (eqb-true b 92 slash)) (escape e)
spelled_by b bs x false false quote slash e escape plain =
    let y = with_byte-some b (quoted false bs) x e in
    let sign : is_escaped (false, b) ≡ true = ap not (ap (λ c. c || (b == 92)) quote ∙ slash) in
    one_more (false, b) bs x y.0 sign y.2 y.3 (plain y.0 y.1)

pub quoted-sound : (f : Bool) (bs : List ℕ) (x : NameAndRest) → quoted f bs ≡ Some x → IsSpelled (opened f bs) x
unfolding quoted
quoted-sound true [] x e = absurd (cc e)
quoted-sound false [] x e = absurd (cc e)
quoted-sound true (b ∷ bs) x e =
    let y = with_byte-some b (quoted false bs) x e in
    one_more (true, b) bs x y.0 refl y.2 y.3 (quoted-sound false bs y.0 y.1)
quoted-sound false (b ∷ bs) x e = spelled_by b bs x (b == 34) (b == 92) refl refl e (quoted-sound true bs x) (λ y. quoted-sound false bs y)

pub quoted-complete : (signs : List StateSign) (rest : List ℕ) → list_all is_escaped signs ≡ true → quoted false (flat_map spelling signs ++ 34 ∷ rest) ≡ Some (map byte_of signs, rest)
unfolding quoted
quoted-complete [] rest each = refl
quoted-complete ((true, b) ∷ signs) rest each = ap (with_byte b) (quoted-complete signs rest each)
quoted-complete ((false, b) ∷ signs) rest each =
    let parts = and_parts (not ((b == 34) || (b == 92))) (list_all is_escaped signs) each in
    let none = or_parts (b == 34) (b == 92) (not-true _ parts.0) in
    cond-false _ _ _ none.0 ∙ cond-false _ _ _ none.1 ∙ ap (with_byte b) (quoted-complete signs rest parts.1)

checked-some : (o : Option NameAndRest) (x : NameAndRest) → checked o ≡ Some x → (o ≡ Some x) × (is_name x.0 ≡ true)
checked-some None x e = absurd (cc e)
checked-some (Some y) x e = by (is_name y.0) refl e
  where
    by : (c : Bool) → is_name y.0 ≡ c → cond c (Some y) None ≡ Some x → (Some y ≡ Some x) × (is_name x.0 ≡ true)
    by true good same = let is : y ≡ x = cc same in (same, subst (λ (z : NameAndRest). is_name z.0 ≡ true) is good)
    by false bad same = absurd (cc same)

checked-good : (x : NameAndRest) → is_name x.0 ≡ true → checked (Some x) ≡ Some x
checked-good x good = cond-true _ _ _ good

starts-end : (xs : List ℕ) → starts is_blank xs ≡ true → ends_word xs ≡ true
starts-end [] e = refl
starts-end (b ∷ bs) e = e

end-starts : (xs : List ℕ) → ends_word xs ≡ true → starts is_blank xs ≡ true
end-starts [] e = refl
end-starts (b ∷ bs) e = e

bare-sound : (b : ℕ) (bs : List ℕ) → b ≡ 47 → IsBare (b ∷ bs) (before is_blank (b ∷ bs)) (from_first is_blank (b ∷ bs))
unfolding before
bare-sound b bs is =
    let cut = cut-sound is_blank (b ∷ bs) in
    let no_cut : is_blank b ≡ false = ap is_blank is in
    record {
      slash = ap (take 1) (cond-false _ _ _ no_cut) ∙ ap (λ n. n ∷ []) is;
      no_blank = cut.clear;
      line_is = sym cut.whole;
      ends = starts-end (from_first is_blank (b ∷ bs)) cut.stops;
    }

named_by : (b : ℕ) (bs : List ℕ) (x : NameAndRest) (c d : Bool) → (b == 34) ≡ c → (b == 47) ≡ d
    → cond c (quoted false bs) (cond d (Some (before is_blank (b ∷ bs), from_first is_blank (b ∷ bs))) None) ≡ Some x
    → IsQuoted (b ∷ bs) x.0 x.1 ⊎ IsBare (b ∷ bs) x.0 x.1
named_by b bs x true d quote slash e =
    let s = quoted-sound false bs x e in
    inl (record {
      signs = s.signs;
      each = s.each;
      line_is = ap (λ n. n ∷ bs) (eqb-true b 34 quote) ∙ ap (λ t. 34 ∷ t) s.text_is;
      name_is = s.name_is;
    })
named_by b bs x false true quote slash e =
    let same : (before is_blank (b ∷ bs), from_first is_blank (b ∷ bs)) ≡ x = cc e in
    inr (subst (λ (z : NameAndRest). IsBare (b ∷ bs) z.0 z.1) same (bare-sound b bs (eqb-true b 47 slash)))
named_by b bs x false false quote slash e = absurd (cc e)

-- what the reader takes for a name of a log is one
pub named-sound : (line : List ℕ) (x : NameAndRest) → checked (name_in line) ≡ Some x → BeginsWithName line x.0 x.1
unfolding name_in
named-sound [] x e = absurd (cc e)
named-sound (b ∷ bs) x e =
    let c = checked-some _ x e in
    (named_by b bs x (b == 34) (b == 47) refl refl c.0, c.1)

bare-complete : (name rest : List ℕ) → take 1 name ≡ 47 ∷ [] → list_all is_no_blank name ≡ true → ends_word rest ≡ true → name_in (name ++ rest) ≡ Some (name, rest)
unfolding name_in
bare-complete [] rest slash no_blank ends = absurd (cc slash)
bare-complete (a ∷ name) rest slash no_blank ends =
    let is : a ≡ 47 = cc slash in
    let cut = cut-complete is_blank is_no_blank (λ b e. not-true _ e) (a ∷ name) rest no_blank (end-starts rest ends) in
    cond-false _ _ _ (ap (λ n. n == 34) is) ∙ cond-true _ _ _ (ap (λ n. n == 47) is)
    ∙ ap (λ n. Some (n, from_first is_blank (a ∷ (name ++ rest)))) cut.0 ∙ ap (λ r. Some (a ∷ name, r)) cut.1

-- and what is one the reader takes
pub named-complete : (line name rest : List ℕ) → BeginsWithName line name rest → checked (name_in line) ≡ Some (name, rest)
unfolding name_in
named-complete line name rest (inl q, good) =
    ap (λ l. checked (name_in l)) q.line_is ∙ ap checked (quoted-complete q.signs rest q.each)
    ∙ ap (λ n. checked (Some (n, rest))) (sym q.name_is) ∙ checked-good (name, rest) good
named-complete line name rest (inr q, good) =
    ap (λ l. checked (name_in l)) q.line_is ∙ ap checked (bare-complete name rest q.slash q.no_blank q.ends) ∙ checked-good (name, rest) good
