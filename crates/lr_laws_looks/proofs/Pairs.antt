-- The parts of a wildcard and those of a path that it matches, place by place.
use Rattle.std.proofs.Common.{◌≡◌, ℕ, true, false, List, [], ◌∷◌, ◌++◌, refl, sym, ap, ◌∙◌, subst}
use Rattle.std.specs.Prelude.{chars}
use Rattle.std.specs.List.{list_any, slice_split}
use Rattle.std.proofs.lemmas.List.{append-nil}
use Rattle.lr_rules.specs.Match.{Matches, PathMatches, is_wildcard}
use Rattle.lr_rules.specs.Path.{is_slash, is_absolute}
use Rattle.lr_rules.proofs.Cleaned.{ArePlain}
use Rattle.lr_glob.specs.Parts.{parts_in}
use Rattle.lr_glob.proofs.Names.{behind}
use Rattle.lr_glob.proofs.Literals.{split_onto}

-- each part matches the name at its place
abbrev pub Pairs : List (List ℕ) → List (List ℕ) → Type 0
Pairs [] [] = Unit {0}
Pairs (part ∷ parts) (name ∷ names) = (list_any is_slash part ≡ false) × Matches true (chars part) (chars name) × Pairs parts names
Pairs _ _ = ⊥

split_again : (p : List ℕ) (ps : List (List ℕ)) → ArePlain (p ∷ ps) → slice_split is_slash (p ++ behind ps) ≡ p ∷ ps
split_again p [] a = split_onto p [] [] [] a.0 refl ∙ ap (λ bs. bs ∷ []) (append-nil p)
split_again p (q ∷ qs) a =
    split_onto p (47 ∷ q ++ behind qs) [] (slice_split is_slash (q ++ behind qs)) a.0 refl
    ∙ (ap (λ bs. bs ∷ slice_split is_slash (q ++ behind qs)) (append-nil p) ∙ ap (λ ps. p ∷ ps) (split_again q qs a.1))

-- what a wildcard that matches a path is made of
record Matched (word x : List ℕ) : Type 0 where
  parts : List (List ℕ)
  names : List (List ℕ)
  pairs : Pairs parts names
  plain : ArePlain parts
  plain_names : ArePlain names
  word_is : word ≡ behind parts
  path_is : x ≡ behind names

matched : (word x : List ℕ) → PathMatches word x → Matched word x
matched _ _ PathMatches.no_part = record { parts = []; names = []; pairs = tt; plain = tt; plain_names = tt; word_is = refl; path_is = refl }
matched word x (PathMatches.next_part part name parts names a b ew ex m rest) =
    let r = matched parts names rest in
    record {
      parts = part ∷ r.parts;
      names = name ∷ r.names;
      pairs = (a, m, r.pairs);
      plain = (a, r.plain);
      plain_names = (b, r.plain_names);
      word_is = ew ∙ ap (λ bs. 47 ∷ part ++ bs) r.word_is;
      path_is = ex ∙ ap (λ bs. 47 ∷ name ++ bs) r.path_is;
    }

parts_again : (w p : List ℕ) (ps : List (List ℕ)) → ArePlain (p ∷ ps) → w ≡ behind (p ∷ ps) → parts_in w ≡ p ∷ ps
parts_again w p ps a e = ap (λ bs. parts_in bs) e ∙ split_again p ps a

-- a wildcard that matches a path is absolute
pub matches_absolute : (word x : List ℕ) → is_wildcard word ≡ true → PathMatches word x → is_absolute word ≡ true
matches_absolute _ _ wild PathMatches.no_part = absurd (cc wild)
matches_absolute word x wild (PathMatches.next_part part name parts names a b ew ex m rest) = ap is_absolute ew

-- the parts of such a wildcard match those of the path
pub parts_match : (word x : List ℕ) → is_wildcard word ≡ true → PathMatches word x → Pairs (parts_in word) (parts_in x)
parts_match word x wild matches = by r.parts r.names r.pairs r.plain r.plain_names r.word_is r.path_is
  where
    r : Matched word x
    r = matched word x matches

    by : (ps ns : List (List ℕ)) → Pairs ps ns → ArePlain ps → ArePlain ns → word ≡ behind ps → x ≡ behind ns → Pairs (parts_in word) (parts_in x)
    by [] [] pairs a b ew ex = let t = sym (ap is_wildcard ew) ∙ wild in absurd (cc)
    by (p ∷ ps) (n ∷ ns) pairs a b ew ex = subst (λ qs. Pairs qs (parts_in x)) (sym (parts_again word p ps a ew)) (subst (λ qs. Pairs (p ∷ ps) qs) (sym (parts_again x n ns b ex)) pairs)
    by [] (n ∷ ns) pairs a b ew ex = absurd pairs
    by (p ∷ ps) [] pairs a b ew ex = absurd pairs
