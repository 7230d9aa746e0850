-- The pairs of logs that meet.
use Rattle.std.proofs.Common.{◌≡◌, ◌≢◌, ◌∙◌, sym, ap, subst, inl, inr, ⊎_elim, ℕ, ◌<◌, ◌≤◌, ◌+◌, List, [], ◌∷◌, ◌++◌, length, Bool, true, false, not, cond, Some, slice_get, arith}
use Rattle.std.specs.Prelude.{All, Contains, ◌↔◌}
use Rattle.std.specs.Borrow.{Bor}
use Rattle.std.specs.List.Sorted.{IsPermutation}
use Rattle.std.proofs.lemmas.Bool.{not-true, lt-ltb, le-ltb, cases_order, cases_lt}
use Rattle.std.proofs.lemmas.List.Elements.{All-push, All-weaker, Contains-append_left, Contains-push, All-head, All-tail}
use Rattle.std.proofs.lemmas.List.Sorted.{Contains-permutation, All-permutation}
use Rattle.std.proofs.lemmas.Option.{slice_get_within}
use Rattle.lr_rules.specs.Names.{aside_path, Meet}
use Rattle.lr_shapes.specs.Fronts.{Begins}
use Rattle.lr_family.specs.declared.family.Family.{Family}
use Rattle.lr_kept.specs.declared.choice.Choice.{Choice}
use Rattle.lr_kept.specs.declared.front.Front.{Front}
use Rattle.lr_kept.specs.declared.pair.Pair.{Pair}
use Rattle.lr_kept.specs.Chosen.{MeetAt, IsNew, IsKeptAt}
use Rattle.lr_kept.specs.Fronts.{FindsFront, HaveFronts, aside_front, front_at, fronts_at, below, member_front}
use Rattle.lr_kept.specs.Pairs.{pair_at, pair_of, IsPair, Grows, HasPair, AddsAside, AddsPair, AddsPairs, AddsBetween, AddsPairsOf, HaveFound, HavePairs}
use Rattle.lr_kept.proofs.Finding.{IsFrontOf, FindsIt, one_finds, meet_back}
use Rattle.lr_kept.proofs.Elements.{contains_read, same_read}

-- what is known of two logs that are read
module _ (logs : List (Bor Family)) (i k : ℕ) (f g : Bor Family) (at_i : slice_get logs i ≡ Some f) (at_k : slice_get logs k ≡ Some g) where
  meet_of : MeetAt logs i k → Meet f.now.log f.now.naming g.now.log g.now.naming
  meet_of m = subst (λ (x : Bor Family). Meet f.now.log f.now.naming x.now.log x.now.naming) (same_read logs k m.other g m.at_other at_k)
      (subst (λ (x : Bor Family). Meet x.now.log x.now.naming m.other.now.log m.other.now.naming) (same_read logs i m.one f m.at_one at_i) m.holds)

  pub meet_decided : (r : Bool) → i ≢ k → (r ≡ false) ↔ Meet f.now.log f.now.naming g.now.log g.now.naming → (not r ≡ true) ↔ ((i ≢ k) × MeetAt logs i k)
  meet_decided r ne is = (
    λ h. (ne, record { one = f; other = g; at_one = at_i; at_other = at_k; holds = is.0 (not-true r h) }),
    λ h. ap not (is.1 (meet_of h.1)),
  )

pub back_at : (logs : List (Bor Family)) (i k : ℕ) → MeetAt logs i k → MeetAt logs k i
back_at logs i k m = record { one = m.other; other = m.one; at_one = m.at_other; at_other = m.at_one; holds = meet_back m.one.now m.other.now m.holds }

first_of : (i k : ℕ) → i < k → pair_of i k ≡ pair_at i k
first_of i k lt = ap (λ t. cond t (pair_at i k) (pair_at k i)) (lt-ltb i k lt)

last_of : (i k : ℕ) → k < i → pair_of i k ≡ pair_at k i
last_of i k lt = ap (λ t. cond t (pair_at i k) (pair_at k i)) (le-ltb i k (omega arith))

is_pair : (logs : List (Bor Family)) (i k : ℕ) → i ≢ k → MeetAt logs i k → IsPair logs (pair_of i k)
is_pair logs i k ne m = ⊎_elim (λ (e : i ≡ k). absurd (ne e))
    (λ s. ⊎_elim
    (λ (l : i < k). subst (λ (p : Pair). IsPair logs p) (sym (first_of i k l)) (l, m))
    (λ (l : k < i). subst (λ (p : Pair). IsPair logs p) (sym (last_of i k l)) (l, back_at logs i k m)) s)
    (cases_order i k)

pub stays : (logs : List (Bor Family)) (old : List Pair) → Grows logs old old
stays logs old = record { kept = λ p c. c; sound = λ all. all }

pub grows_on : (logs : List (Bor Family)) (old mid new : List Pair) → Grows logs old mid → Grows logs mid new → Grows logs old new
grows_on logs old mid new a b = record { kept = λ p c. b.kept p (a.kept p c); sound = λ all. b.sound (a.sound all) }

has_still : (logs : List (Bor Family)) (mid new : List Pair) (i k : ℕ) → Grows logs mid new → HasPair logs mid i k → HasPair logs new i k
has_still logs mid new i k g h ne m = g.kept (pair_of i k) (h ne m)

pub adds_pair : (logs : List (Bor Family)) (i k : ℕ) (old new : List Pair) → i ≢ k → MeetAt logs i k → new ≡ old ++ pair_of i k ∷ [] → AddsPair logs i k old new
adds_pair logs i k old new ne m is = subst (λ (ps : List Pair). AddsPair logs i k old ps) (sym is) (record {
  grows = record {
    kept = λ p c. Contains-append_left old (pair_of i k ∷ []) p c;
    sound = λ all. All-push (IsPair logs) old (pair_of i k) all (is_pair logs i k ne m);
  };
  found = λ _ _. Contains-push old (pair_of i k);
})

module _ (logs : List (Bor Family)) (fronts : List Front) (place from : ℕ) where
  pub between_none : (old : List Pair) → AddsBetween logs fronts place from from old old
  between_none old = record { grows = stays logs old; found = λ t f at le l. absurd (omega arith) }

  pub between_more : (to : ℕ) (f : Front) (old mid new : List Pair) → slice_get fronts to ≡ Some f → AddsBetween logs fronts place from to old mid → AddsPair logs place f.place mid new → AddsBetween logs fronts place from (to + 1) old new
  between_more to f old mid new at so_far adds = record {
    grows = grows_on logs old mid new so_far.grows adds.grows;
    found = λ t h here le l. ⊎_elim
        (λ (lo : t < to). has_still logs mid new place h.place adds.grows (so_far.found t h here le lo))
        (λ (hi : to ≤ t).
        let same : to ≡ t = omega arith in
        let read : slice_get fronts to ≡ Some h = ap (λ n. slice_get fronts n) same ∙ here in
        let is : f ≡ h = cc (at, read) in
        subst (λ (x : Front). HasPair logs new place x.place) is adds.found)
        (cases_lt t to);
  }

  pub between_all : (to at : ℕ) (begin : List ℕ) (old new : List Pair) → to ≤ at → ((t : ℕ) (f : Front) → slice_get fronts t ≡ Some f → ((from ≤ t) × (t < to)) ↔ Begins begin f.bytes) → AddsBetween logs fronts place from at old new → AddsPairs logs fronts place begin old new
  between_all to at begin old new le exactly all = record {
    grows = all.grows;
    found = λ bytes k c h.
        let read = contains_read fronts (front_at k bytes) c in
        let here = (exactly read.0 (front_at k bytes) read.2).1 h in
        all.found read.0 (front_at k bytes) read.2 here.0 (omega (arith, here.1));
  }

pub aside_found : (logs : List (Bor Family)) (fronts : List Front) (place : ℕ) (f : Bor Family) (old new : List Pair) → slice_get logs place ≡ Some f → AddsPairs logs fronts place (aside_path f.now.log) old new → AddsAside logs fronts place old new
aside_found logs fronts place f old new at a = record {
  grows = a.grows;
  found = λ g bytes k here on c h. a.found bytes k c (subst (λ (x : Bor Family). Begins (aside_path x.now.log) bytes) (same_read logs place g f here at) h);
}

pub found_all : (logs : List (Bor Family)) (choices : List Choice) (fronts : List Front) (place : ℕ) (f : Bor Family) (old mid more new : List Pair) → slice_get logs place ≡ Some f → AddsPairs logs fronts place (member_front f.now.naming) old mid → AddsPairs logs fronts place (below f.now.log) mid more
    → AddsAside logs fronts place more new → AddsPairsOf logs choices fronts place old new
found_all logs choices fronts place f old mid more new at a b d = record {
  grows = grows_on logs old mid new a.grows (grows_on logs mid more new b.grows d.grows);
  found = λ g bytes k here kept c finds. by g bytes k c (cc (at, here)) here finds;
}
  where
    by : (g : Bor Family) (bytes : List ℕ) (k : ℕ) → Contains fronts (front_at k bytes) → f ≡ g → slice_get logs place ≡ Some g → FindsFront g.now bytes → HasPair logs new place k
    by g bytes k c same here (inl h) = has_still logs mid new place k (grows_on logs mid more new b.grows d.grows) (a.found bytes k c (subst (λ (x : Bor Family). Begins (member_front x.now.naming) bytes) (sym same) h))
    by g bytes k c same here (inr (inl h)) = has_still logs more new place k d.grows (b.found bytes k c (subst (λ (x : Bor Family). Begins (below x.now.log) bytes) (sym same) h))
    by g bytes k c same here (inr (inr h)) = d.found g bytes k here h.0 c h.1

pub more_found : (logs : List (Bor Family)) (choices : List Choice) (fronts : List Front) (n : ℕ) (mid new : List Pair) → HaveFound logs choices fronts n mid → AddsPairsOf logs choices fronts n mid new → HaveFound logs choices fronts (n + 1) new
more_found logs choices fronts n mid new so_far adds = record {
  sound = adds.grows.sound so_far.sound;
  found = λ i f bytes k lt at kept c finds. ⊎_elim
      (λ (lo : i < n). has_still logs mid new i k adds.grows (so_far.found i f bytes k lo at kept c finds))
      (λ (hi : n ≤ i).
      let same : n ≡ i = omega arith in
      subst (λ (j : ℕ). HasPair logs new j k) same
      (adds.found f bytes k (ap (λ j. slice_get logs j) same ∙ at) (ap (λ j. slice_get choices j) same ∙ kept) c finds))
      (cases_lt i n);
}

-- the fronts of a log behind that of its path, and behind that of its members
abbrev behind_members : Family → ℕ → List Front
behind_members f k = front_at k (below f.naming.dir) ∷ aside_front f k

abbrev behind_log : Family → ℕ → List Front
behind_log f k = front_at k (member_front f.naming) ∷ behind_members f k

from_dir : (fronts : List Front) (f : Family) (k : ℕ) → All (Contains fronts) (fronts_at f k) → All (Contains fronts) (behind_members f k)
from_dir fronts f k all = All-tail (Contains fronts) (front_at k (member_front f.naming)) (behind_members f k) (All-tail (Contains fronts) (front_at k f.log) (behind_log f k) all)

-- each front of a log is among them
pub has_front : (fronts : List Front) (f : Family) (k : ℕ) (bytes : List ℕ) → All (Contains fronts) (fronts_at f k) → IsFrontOf f bytes → Contains fronts (front_at k bytes)
has_front fronts f k bytes all (inl e) =
    subst (λ (b : List ℕ). Contains fronts (front_at k b)) (sym e) (All-head (Contains fronts) (front_at k f.log) (behind_log f k) all)
has_front fronts f k bytes all (inr (inl e)) =
    subst (λ (b : List ℕ). Contains fronts (front_at k b)) (sym e) (All-head (Contains fronts) (front_at k (member_front f.naming)) (behind_members f k) (All-tail (Contains fronts) (front_at k f.log) (behind_log f k) all))
has_front fronts f k bytes all (inr (inr (inl e))) =
    subst (λ (b : List ℕ). Contains fronts (front_at k b)) (sym e) (All-head (Contains fronts) (front_at k (below f.naming.dir)) (aside_front f k) (from_dir fronts f k all))
has_front fronts f k bytes all (inr (inr (inr h))) = subst (λ (b : List ℕ). Contains fronts (front_at k b)) (sym h.1)
    (All-head (Contains fronts) (front_at k (aside_path f.log)) []
    (subst (λ (b : Bool). All (Contains fronts) (cond b (front_at k (aside_path f.log) ∷ []) [])) h.0 (All-tail (Contains fronts) (front_at k (below f.naming.dir)) (aside_front f k) (from_dir fronts f k all))))

pub all_pairs : (logs : List (Bor Family)) (choices : List Choice) (fronts : List Front) (pairs : List Pair) → ((k : ℕ) → IsKeptAt choices k → IsNew logs k) → HaveFronts logs choices (length logs) fronts → HaveFound logs choices fronts (length logs) pairs → HavePairs logs choices pairs
all_pairs logs choices fronts pairs new have found = record {
  sound = found.sound;
  each = λ i k lt kept_i kept_k m. ⊎_elim
      (λ (h : FindsIt m.one.now m.other.now).
      subst (λ (p : Pair). Contains pairs p) (first_of i k lt)
      (found.found i m.one h.0 k (slice_get_within logs i m.one m.at_one) m.at_one kept_i
      (has_front fronts m.other.now k h.0 (have.each k m.other (slice_get_within logs k m.other m.at_other) m.at_other kept_k) h.1) h.2 (λ e. absurd (omega arith)) m))
      (λ (h : FindsIt m.other.now m.one.now).
      subst (λ (p : Pair). Contains pairs p) (last_of k i lt)
      (found.found k m.other h.0 i (slice_get_within logs k m.other m.at_other) m.at_other kept_k
      (has_front fronts m.one.now i h.0 (have.each i m.one (slice_get_within logs i m.one m.at_one) m.at_one kept_i) h.1) h.2 (λ e. absurd (omega arith)) (back_at logs i k m)))
      (one_finds m.one.now m.other.now
      (λ e. new k kept_k i lt (record { one = m.one; other = m.other; at_one = m.at_one; at_other = m.at_other; holds = e }))
      m.holds);
}

-- in another order they are the same pairs
pub same_pairs : (logs : List (Bor Family)) (choices : List Choice) (pairs sorted : List Pair) → IsPermutation pairs sorted → HavePairs logs choices pairs → HavePairs logs choices sorted
same_pairs logs choices pairs sorted same have = record {
  sound = All-permutation (IsPair logs) pairs sorted same have.sound;
  each = λ i k lt kept_i kept_k m. Contains-permutation pairs sorted (pair_at i k) same (have.each i k lt kept_i kept_k m);
}

-- the places of the pairs are those of choices
pub pairs_within : (logs : List (Bor Family)) (choices : List Choice) (pairs : List Pair) → length choices ≡ length logs → All (IsPair logs) pairs → All (λ p. (p.earlier < p.later) × (p.later < length choices)) pairs
pairs_within logs choices pairs as_many all = All-weaker (IsPair logs) (λ p. (p.earlier < p.later) × (p.later < length choices))
    (λ p is. (is.0, let lt = slice_get_within logs p.later is.1.other is.1.at_other in omega (arith, lt))) pairs all
