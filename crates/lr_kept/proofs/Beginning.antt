-- The fronts of all logs.
use Rattle.std.proofs.Common.{◌≡◌, sym, ap, subst, inl, inr, ⊎_elim, ℕ, ◌<◌, ◌≤◌, ◌+◌, Bool, true, false, cond, List, [], ◌∷◌, ◌++◌, length, slice_get, arith}
use Rattle.std.specs.Prelude.{All, Contains}
use Rattle.std.specs.Borrow.{Bor}
use Rattle.std.specs.List.Sorted.{IsPermutation}
use Rattle.std.proofs.lemmas.Bool.{cases_lt}
use Rattle.std.proofs.lemmas.List.Elements.{All-nil, All-cons, All-append, All-weaker, All-contains_itself, Contains-append_left, Contains-append_right}
use Rattle.std.proofs.lemmas.List.Sorted.{Contains-permutation, All-permutation}
use Rattle.std.proofs.lemmas.Option.{slice_get_within}
use Rattle.lr_rules.specs.Names.{aside_path}
use Rattle.lr_family.specs.declared.family.Family.{Family}
use Rattle.lr_kept.specs.declared.choice.Choice.{Choice}
use Rattle.lr_kept.specs.declared.front.Front.{Front}
use Rattle.lr_kept.specs.Chosen.{IsKeptAt}
use Rattle.lr_kept.specs.Fronts.{HaveFronts, AddsFronts, aside_front, fronts_at, front_at, member_front, below}

-- what is there stays there
wider : (old more fs : List Front) → All (Contains old) fs → All (Contains (old ++ more)) fs
wider old more fs all = All-weaker (Contains old) (Contains (old ++ more)) (λ x c. Contains-append_left old more x c) fs all

own : (old fs : List Front) → All (Contains (old ++ fs)) fs
own old fs = All-weaker (Contains fs) (Contains (old ++ fs)) (λ x c. Contains-append_right old fs x c) fs (All-contains_itself fs)

abbrev IsWithin : List (Bor Family) → Front → Type 0
IsWithin logs x = x.place < length logs

own_places : (logs : List (Bor Family)) (f : Family) (n : ℕ) → n < length logs → All (λ (x : Front). x.place < length logs) (fronts_at f n)
own_places logs f n lt =
    All-cons (IsWithin logs) (front_at n f.log) (front_at n (member_front f.naming) ∷ front_at n (below f.naming.dir) ∷ aside_front f n) lt
    (All-cons (IsWithin logs) (front_at n (member_front f.naming)) (front_at n (below f.naming.dir) ∷ aside_front f n) lt
    (All-cons (IsWithin logs) (front_at n (below f.naming.dir)) (aside_front f n) lt (where_aside f.naming.aside)))
  where
    where_aside : (b : Bool) → All (IsWithin logs) (cond b (front_at n (aside_path f.log) ∷ []) [])
    where_aside true = All-cons (IsWithin logs) (front_at n (aside_path f.log)) [] lt (All-nil (IsWithin logs))
    where_aside false = All-nil (IsWithin logs)

pub more_fronts : (logs : List (Bor Family)) (choices : List Choice) (n : ℕ) (old new : List Front) → HaveFronts logs choices n old → AddsFronts logs choices n old new → HaveFronts logs choices (n + 1) new
more_fronts logs choices n old new so_far (inl h) = subst (λ (fs : List Front). HaveFronts logs choices (n + 1) fs) (sym h.2) (record {
  places = All-append (λ x. x.place < length logs) old (fronts_at h.0.now n) so_far.places (own_places logs h.0.now n (slice_get_within logs n h.0 h.1));
  each = λ k g lt here kept. ⊎_elim
      (λ (lo : k < n). wider old (fronts_at h.0.now n) (fronts_at g.now k) (so_far.each k g lo here kept))
      (λ (hi : n ≤ k).
      let e : k ≡ n = omega arith in
      let same : h.0 ≡ g = cc (h.1, here, ap (λ j. slice_get logs j) e) in
      subst (λ (x : Bor Family). All (Contains (old ++ fronts_at h.0.now n)) (fronts_at x.now k)) same
      (subst (λ j. All (Contains (old ++ fronts_at h.0.now n)) (fronts_at h.0.now j)) (sym e) (own old (fronts_at h.0.now n))))
      (cases_lt k n);
})
more_fronts logs choices n old new so_far (inr h) = subst (λ (fs : List Front). HaveFronts logs choices (n + 1) fs) (sym h.1) (record {
  places = so_far.places;
  each = λ k g lt here kept. ⊎_elim
      (λ (lo : k < n). so_far.each k g lo here kept)
      (λ (hi : n ≤ k). let e : k ≡ n = omega arith in absurd (h.0 (subst (λ j. IsKeptAt choices j) e kept)))
      (cases_lt k n);
})

-- in another order they are the same fronts
pub same_fronts : (logs : List (Bor Family)) (choices : List Choice) (n : ℕ) (fronts sorted : List Front) → IsPermutation fronts sorted → HaveFronts logs choices n fronts → HaveFronts logs choices n sorted
same_fronts logs choices n fronts sorted same have = record {
  places = All-permutation (λ f. f.place < length logs) fronts sorted same have.places;
  each = λ k f lt at kept. All-weaker (Contains fronts) (Contains sorted) (λ x c. Contains-permutation fronts sorted x same c) (fronts_at f.now k) (have.each k f lt at kept);
}
