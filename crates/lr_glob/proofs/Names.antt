-- The parts of a word, and the names behind one another that a path is made of.
use Rattle.std.proofs.Common.{◌≡◌, inl, inr, ℕ, ◌≤◌, Bool, true, false, cond, not, nat_eq, ◌==◌, ◌&&◌, List, [], ◌∷◌, ◌++◌, length, length-append, refl, sym, ap, ◌∙◌, append_assoc, arith}
use Rattle.std.specs.List.{list_any, slice_split, onto_first}
use Rattle.std.proofs.lemmas.Bool.{false_from_ne_true, or_parts, or_from}
use Rattle.std.proofs.lemmas.Bool.Decides.{Decides-eqb}
use Rattle.std.proofs.lemmas.List.{append-nil}
use Rattle.lr_rules.specs.declared.path.Path.{Path}
use Rattle.lr_rules.specs.Path.{joined, is_slash, is_empty, is_absolute, has_empty_part, root}
use Rattle.lr_rules.specs.Match.{literal_path}
use Rattle.lr_rules.proofs.Heads.{tails}
use Rattle.lr_rules.proofs.Splits.{Parts, some_parts, split_parts}
use Rattle.lr_host.specs.Fits.{IsPart}
use Rattle.lr_host.specs.Lists.{IsIn}
use Rattle.lr_glob.specs.Parts.{parts_in}

-- each behind a slash
abbrev pub behind : List (List ℕ) → List ℕ
behind [] = []
behind (name ∷ names) = 47 ∷ name ++ behind names

-- the path that these names lead to from a directory
abbrev pub under : Path → List (List ℕ) → Path
under d [] = d
under d (name ∷ names) = under (joined d name) names

abbrev pub AreParts : List (List ℕ) → Type 0
AreParts names = (name : List ℕ) → IsIn name names → IsPart name

not_one : (n : ℕ) → 2 ≤ n → nat_eq n 1 ≡ false
not_one n more = false_from_ne_true (nat_eq n 1) (λ t. let e = (Decides-eqb n 1).0 t in omega (arith, e, more))

some_byte : (name : List ℕ) → IsPart name → 1 ≤ length name
some_byte [] part = let t = part.0 in absurd (cc)
some_byte (b ∷ bs) part = omega arith

longer : (d name : List ℕ) → IsPart name → nat_eq (length (d ++ 47 ∷ name)) 1 ≡ false
longer d name part = let size = length-append d (47 ∷ name) in let some = some_byte name part in not_one (length (d ++ 47 ∷ name)) (omega (arith, size, some))

under_long : (d : Path) (names : List (List ℕ)) → AreParts names → nat_eq (length d) 1 ≡ false → under d names ≡ d ++ behind names
under_long d [] a long = sym (append-nil d)
under_long d (name ∷ names) a long =
    ap (λ b. under (cond b [] d ++ 47 ∷ name) names) long
    ∙ (under_long (d ++ 47 ∷ name) names (λ n i. a n (inr i)) (longer d name (a name (inl refl)))
    ∙ append_assoc d (47 ∷ name) (behind names))

-- from `/`
pub under_root : (name : List ℕ) (names : List (List ℕ)) → AreParts (name ∷ names) → under root (name ∷ names) ≡ behind (name ∷ names)
under_root name names a = under_long (47 ∷ name) names (λ n i. a n (inr i)) (longer [] name (a name (inl refl)))

-- ---- the parts of a word

split_behind : (bs : List ℕ) → behind (slice_split is_slash bs) ≡ 47 ∷ bs
split_behind [] = refl
split_behind (b ∷ bs) = by (is_slash b) refl (slice_split is_slash bs) (split_parts bs) (split_behind bs)
  where
    by : (s : Bool) → is_slash b ≡ s → (ps : List (List ℕ)) → Parts ps → behind ps ≡ 47 ∷ bs → behind (cond s ([] ∷ ps) (onto_first b ps)) ≡ 47 ∷ b ∷ bs
    by true is ps p e = ap (λ xs. 47 ∷ xs) (e ∙ ap (λ x. x ∷ bs) (sym ((Decides-eqb b 47).0 is)))
    by false is _ (some_parts q qs) e = ap (λ xs. 47 ∷ b ∷ xs) (tails 47 47 (q ++ behind qs) bs e)

-- an absolute word is its parts, each behind a slash
pub word_behind : (word : List ℕ) → is_absolute word ≡ true → word ≡ behind (parts_in word)
word_behind [] a = absurd (cc)
word_behind (b ∷ bs) a = ap (λ x. x ∷ bs) ((Decides-eqb b 47).0 a) ∙ sym (split_behind bs)

pub split_plain : (bs part : List ℕ) → IsIn part (slice_split is_slash bs) → list_any is_slash part ≡ false
split_plain [] part (inl e) = ap (list_any is_slash) (sym e)
split_plain [] part (inr i) = absurd i
split_plain (b ∷ bs) part i = by (is_slash b) refl (slice_split is_slash bs) (split_parts bs) (λ p j. split_plain bs p j) i
  where
    by : (s : Bool) → is_slash b ≡ s → (ps : List (List ℕ)) → Parts ps → ((p : List ℕ) → IsIn p ps → list_any is_slash p ≡ false) → IsIn part (cond s ([] ∷ ps) (onto_first b ps)) → list_any is_slash part ≡ false
    by true is ps p f (inl e) = ap (list_any is_slash) (sym e)
    by true is ps p f (inr j) = f part j
    by false is _ (some_parts q qs) f (inl e) = ap (list_any is_slash) (sym e) ∙ or_from (is_slash b) (list_any is_slash q) is (f q (inl refl))
    by false is _ (some_parts q qs) f (inr j) = f part (inr j)

split_full : (ps : List (List ℕ)) (part : List ℕ) → list_any is_empty ps ≡ false → IsIn part ps → is_empty part ≡ false
split_full [] part h i = absurd i
split_full (p ∷ ps) part h (inl e) = ap is_empty (sym e) ∙ (or_parts (is_empty p) (list_any is_empty ps) h).0
split_full (p ∷ ps) part h (inr i) = split_full ps part (or_parts (is_empty p) (list_any is_empty ps) h).1 i

-- ---- a part without signs

literal_plain : (part : List ℕ) → list_any is_slash part ≡ false → list_any is_slash (literal_path part) ≡ false
literal_plain [] h = refl
literal_plain (c ∷ []) h = h
literal_plain (c ∷ d ∷ cs) h = by (c == 92 && not (is_slash d)) (literal_plain cs rest.1) (literal_plain (d ∷ cs) first.1)
  where
    first : (is_slash c ≡ false) × (list_any is_slash (d ∷ cs) ≡ false)
    first = or_parts (is_slash c) (list_any is_slash (d ∷ cs)) h

    rest : (is_slash d ≡ false) × (list_any is_slash cs ≡ false)
    rest = or_parts (is_slash d) (list_any is_slash cs) first.1

    by : (b : Bool) → list_any is_slash (literal_path cs) ≡ false → list_any is_slash (literal_path (d ∷ cs)) ≡ false → list_any is_slash (cond b (d ∷ literal_path cs) (c ∷ literal_path (d ∷ cs))) ≡ false
    by true x y = or_from (is_slash d) (list_any is_slash (literal_path cs)) rest.0 x
    by false x y = or_from (is_slash c) (list_any is_slash (literal_path (d ∷ cs))) first.0 y

literal_full : (part : List ℕ) → is_empty part ≡ false → is_empty (literal_path part) ≡ false
literal_full [] h = h
literal_full (c ∷ []) h = refl
literal_full (c ∷ d ∷ cs) h = by (c == 92 && not (is_slash d))
  where
    by : (b : Bool) → is_empty (cond b (d ∷ literal_path cs) (c ∷ literal_path (d ∷ cs))) ≡ false
    by true = refl
    by false = refl

pub literal_part : (part : List ℕ) → IsPart part → IsPart (literal_path part)
literal_part part p = (literal_full part p.0, literal_plain part p.1)

-- the parts of a word without an empty one
pub word_parts : (word : List ℕ) → is_absolute word ≡ true → 2 ≤ length word → has_empty_part word ≡ false → AreParts (parts_in word)
word_parts [] a long full part i = absurd (cc)
word_parts (b ∷ []) a long full part i = absurd (omega (arith, long))
word_parts (b ∷ c ∷ bs) a long full part i = (split_full (slice_split is_slash (c ∷ bs)) part full i, split_plain (c ∷ bs) part i)
