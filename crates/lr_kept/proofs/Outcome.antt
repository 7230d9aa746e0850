-- Which logs are kept once all pairs are settled.
use Rattle.std.proofs.Common.{◌≡◌, ◌≢◌, ◌∙◌, sym, ap, subst, inl, inr, ⊎_elim, ◌⊎◌, ℕ, ◌<◌, ◌≤◌, ◌+◌, List, Bool, length, set, Some, slice_get, get_or, length-set, arith}
use Rattle.std.specs.Borrow.{Bor}
use Rattle.std.proofs.lemmas.Bool.{cases_lt, cases_eq}
use Rattle.std.proofs.lemmas.List.Elements.{All-contains}
use Rattle.std.proofs.lemmas.Option.{slice_get_within, slice_get-get_or, get_or_from_slice_get}
use Rattle.lr_rules.specs.declared.path.Path.{Path}
use Rattle.lr_family.specs.declared.family.Family.{Family}
use Rattle.lr_kept.specs.declared.choice.Choice.{Choice}
use Rattle.lr_kept.specs.declared.choice.Choice.TheVariants.{Kept, Again, MemberOf, Reserved, Meets}
use Rattle.lr_kept.specs.declared.pair.Pair.{Pair}
use Rattle.lr_kept.specs.Barred.{IsUnbarred, IsShut, AreOpened}
use Rattle.lr_kept.specs.Begun.{AreBegun}
use Rattle.lr_kept.specs.Chosen.{IsAgain, MeetAt, IsKeptAt, IsChoice, AreChosen}
use Rattle.lr_kept.specs.Members.{IsOwn, ArePassed}
use Rattle.lr_kept.specs.Pairs.{pair_at, IsPair, HavePairs, PairsRise, IsPairSettled, IsPairAmong, AreSettled}
use Rattle.lr_kept.proofs.Elements.{read_set_same, read_set_other, contains_read, contains_from}

-- one pair more
module _ (pairs : List Pair) (n : ℕ) (p : Pair) (at : slice_get pairs n ≡ Some p) where
  pub among_more : (i k : ℕ) → IsPairAmong pairs (n + 1) i k → IsPairAmong pairs n i k ⊎ ((i ≡ p.earlier) × (k ≡ p.later))
  among_more i k m = ⊎_elim
      (λ (lo : m.0 < n). inl (m.0, lo, m.2))
      (λ (hi : n ≤ m.0).
      let same : m.0 ≡ n = omega (arith, m.1) in
      let read : slice_get pairs n ≡ Some (pair_at i k) = ap (λ s. slice_get pairs s) (sym same) ∙ m.2 in
      let is : p ≡ pair_at i k = cc (at, read) in
      inr (sym (ap (λ (q : Pair). q.earlier) is), sym (ap (λ (q : Pair). q.later) is)))
      (cases_lt m.0 n)

  still_among : (i k : ℕ) → IsPairAmong pairs n i k → IsPairAmong pairs (n + 1) i k
  still_among i k m = (m.0, omega (arith, m.1), m.2)

  among_now : IsPairAmong pairs (n + 1) p.earlier p.later
  among_now = (n, omega arith, at)

  earlier_before : PairsRise pairs → (i k : ℕ) → IsPairAmong pairs n i k → i ≤ p.earlier
  earlier_before rising i k m =
      let h = rising m.0 n p (omega (arith, m.1)) (slice_get_within pairs n p at) in
      let one : get_or pairs m.0 p ≡ pair_at i k = get_or_from_slice_get pairs m.0 (pair_at i k) p m.2 in
      let other : get_or pairs n p ≡ p = get_or_from_slice_get pairs n p p at in
      subst (λ (q : Pair). i ≤ q.earlier) other (subst (λ (q : Pair). q.earlier ≤ (get_or pairs n p).earlier) one h)

  module _ (begun old : List Choice) (rising : PairsRise pairs) (so_far : AreSettled begun pairs n old) where
    passed : (IsKeptAt old p.later → IsKeptAt old p.earlier → ⊥) → AreSettled begun pairs (n + 1) old
    passed none = record {
      as_many = so_far.as_many;
      kept = so_far.kept;
      again = so_far.again;
      joined = so_far.joined;
      barred = so_far.barred;
      met_new = so_far.met_new;
      met_kept = so_far.met_kept;
      met_pair = λ k i h. still_among i k (so_far.met_pair k i h);
      met_first = λ k i j h lt m kept. ⊎_elim
          (λ (o : IsPairAmong pairs n j k). so_far.met_first k i j h lt o kept)
          (λ e. let le = earlier_before rising i k (so_far.met_pair k i h) in omega (arith, e.0, le))
          (among_more j k m);
      apart = λ k j m kept_k kept_j. ⊎_elim
          (λ (o : IsPairAmong pairs n j k). so_far.apart k j o kept_k kept_j)
          (λ e. none (subst (λ s. IsKeptAt old s) e.1 kept_k) (subst (λ s. IsKeptAt old s) e.0 kept_j))
          (among_more j k m);
    }

    module _ (within : p.later < length old) (order : p.earlier < p.later) (later : IsKeptAt old p.later) (earlier : IsKeptAt old p.earlier) where
      abbrev new : List Choice
      new = set old p.later (Meets p.earlier)

      at_later : slice_get new p.later ≡ Some (Meets p.earlier)
      at_later = read_set_same old p.later (Meets p.earlier) within

      elsewhere : (k : ℕ) → k ≢ p.later → slice_get new k ≡ slice_get old k
      elsewhere k ne = read_set_other old p.later k (Meets p.earlier) ne

      kept_elsewhere : (k : ℕ) → IsKeptAt new k → k ≢ p.later
      kept_elsewhere k h e = absurd (cc (h, at_later, ap (λ s. slice_get new s) e))

      kept_before : (k : ℕ) → IsKeptAt new k → IsKeptAt old k
      kept_before k h = sym (elsewhere k (kept_elsewhere k h)) ∙ h

      -- what a met log was before: it is the later one now, or was met before
      met_cases : (k i : ℕ) → slice_get new k ≡ Some (Meets i) → ((k ≡ p.later) × (i ≡ p.earlier)) ⊎ ((k ≢ p.later) × (slice_get old k ≡ Some (Meets i)))
      met_cases k i h = ⊎_elim
          (λ (e : k ≡ p.later). let same : i ≡ p.earlier = cc (h, at_later, ap (λ s. slice_get new s) e) in inl (e, same))
          (λ (ne : k ≡ p.later → ⊥). inr (ne, sym (elsewhere k ne) ∙ h))
          (cases_eq k p.later)

      settled_kept : (k : ℕ) → IsKeptAt new k → IsKeptAt begun k
      settled_kept k h = so_far.kept k (kept_before k h)

      settled_again : (k i : ℕ) → slice_get new k ≡ Some (Again i) → slice_get begun k ≡ Some (Again i)
      settled_again k i h = ⊎_elim
          (λ (e : k ≡ p.later). absurd (cc (h, at_later, ap (λ s. slice_get new s) e)))
          (λ (ne : k ≡ p.later → ⊥). so_far.again k i (sym (elsewhere k ne) ∙ h))
          (cases_eq k p.later)

      settled_joined : (k i : ℕ) → slice_get new k ≡ Some (MemberOf i) → slice_get begun k ≡ Some (MemberOf i)
      settled_joined k i h = ⊎_elim
          (λ (e : k ≡ p.later). absurd (cc (h, at_later, ap (λ s. slice_get new s) e)))
          (λ (ne : k ≡ p.later → ⊥). so_far.joined k i (sym (elsewhere k ne) ∙ h))
          (cases_eq k p.later)

      settled_barred : (k i : ℕ) → slice_get new k ≡ Some (Reserved i) → slice_get begun k ≡ Some (Reserved i)
      settled_barred k i h = ⊎_elim
          (λ (e : k ≡ p.later). absurd (cc (h, at_later, ap (λ s. slice_get new s) e)))
          (λ (ne : k ≡ p.later → ⊥). so_far.barred k i (sym (elsewhere k ne) ∙ h))
          (cases_eq k p.later)

      settled_new : (k i : ℕ) → slice_get new k ≡ Some (Meets i) → IsKeptAt begun k
      settled_new k i h = ⊎_elim
          (λ e. subst (λ s. IsKeptAt begun s) (sym e.0) (so_far.kept p.later later))
          (λ o. so_far.met_new k i o.1)
          (met_cases k i h)

      still_kept : (k : ℕ) → k ≢ p.later → IsKeptAt old k → IsKeptAt new k
      still_kept k ne h = elsewhere k ne ∙ h

      settled_met : (k i : ℕ) → slice_get new k ≡ Some (Meets i) → IsKeptAt new i
      settled_met k i h = ⊎_elim
          (λ e. still_kept i (λ s. absurd (omega (arith, s, e.1))) (subst (λ s. IsKeptAt old s) (sym e.1) earlier))
          (λ o. still_kept i (λ s. absurd (let le = earlier_before rising i k (so_far.met_pair k i o.1) in omega (arith, le, s))) (so_far.met_kept k i o.1))
          (met_cases k i h)

      settled_pair : (k i : ℕ) → slice_get new k ≡ Some (Meets i) → IsPairAmong pairs (n + 1) i k
      settled_pair k i h = ⊎_elim
          (λ e. subst (λ s. IsPairAmong pairs (n + 1) s k) (sym e.1) (subst (λ s. IsPairAmong pairs (n + 1) p.earlier s) (sym e.0) among_now))
          (λ o. still_among i k (so_far.met_pair k i o.1))
          (met_cases k i h)

      settled_first : (k i j : ℕ) → slice_get new k ≡ Some (Meets i) → j < i → IsPairAmong pairs (n + 1) j k → IsKeptAt new j → ⊥
      settled_first k i j h lt m kept = ⊎_elim
          (λ e. ⊎_elim
          (λ (o : IsPairAmong pairs n j k). so_far.apart k j o (subst (λ s. IsKeptAt old s) (sym e.0) later) (kept_before j kept))
          (λ f. omega (arith, f.0, e.1, lt))
          (among_more j k m))
          (λ o. ⊎_elim
          (λ (a : IsPairAmong pairs n j k). so_far.met_first k i j o.1 lt a (kept_before j kept))
          (λ f. o.0 f.1)
          (among_more j k m))
          (met_cases k i h)

      settled_apart : (k j : ℕ) → IsPairAmong pairs (n + 1) j k → IsKeptAt new k → IsKeptAt new j → ⊥
      settled_apart k j m kept_k kept_j = ⊎_elim
          (λ (o : IsPairAmong pairs n j k). so_far.apart k j o (kept_before k kept_k) (kept_before j kept_j))
          (λ e. kept_elsewhere k kept_k e.1)
          (among_more j k m)

      settled : AreSettled begun pairs (n + 1) (set old p.later (Meets p.earlier))
      settled = record {
        as_many = length-set old p.later (Meets p.earlier) ∙ so_far.as_many;
        kept = settled_kept;
        again = settled_again;
        joined = settled_joined;
        barred = settled_barred;
        met_new = settled_new;
        met_kept = settled_met;
        met_pair = settled_pair;
        met_first = settled_first;
        apart = settled_apart;
      }

    pub more_settled : (now : List Choice) → p.later < length old → p.earlier < p.later → IsPairSettled old p now → AreSettled begun pairs (n + 1) now
    more_settled now within order (inl h) = subst (λ (cs : List Choice). AreSettled begun pairs (n + 1) cs) (sym h.2) (settled within order h.0 h.1)
    more_settled now within order (inr h) = subst (λ (cs : List Choice). AreSettled begun pairs (n + 1) cs) (sym h.1) (passed h.0)

-- of what was kept once those with a reserved name are barred each pair is there
pub fewer_pairs : (logs : List (Bor Family)) (old choices : List Choice) (pairs : List Pair) → ((k : ℕ) → IsKeptAt choices k → IsKeptAt old k) → HavePairs logs old pairs → HavePairs logs choices pairs
fewer_pairs logs old choices pairs kept have = record { sound = have.sound; each = λ i k lt kept_i kept_k m. have.each i k lt (kept i kept_i) (kept k kept_k) m }

-- what is kept once those with a reserved name are barred was kept to begin with
pub still_begun : (logs : List (Bor Family)) (wild : List Bool) (reserved : List Path) (begun passed choices : List Choice) → AreBegun logs begun → ArePassed logs wild passed → AreOpened logs reserved passed choices → (k : ℕ) → IsKeptAt choices k → IsKeptAt begun k
still_begun logs wild reserved begun passed choices start first opened k h = by _ (slice_get-get_or begun k Kept (let lt = slice_get_within choices k Kept h in omega (arith, lt, opened.as_many, first.as_many, start.as_many)))
  where
    open_at : IsUnbarred logs reserved passed k
    open_at = opened.each k Kept h

    own_at : IsOwn logs wild k
    own_at = first.each k Kept open_at.kept

    by : (c : Choice) → slice_get begun k ≡ Some c → IsKeptAt begun k
    by Kept is = is
    by (Again i) is = let a : IsAgain logs k i = start.each k (Again i) is in absurd (own_at.new i a.before a.same)
    by (MemberOf i) is = absurd (start.each k (MemberOf i) is)
    by (Reserved i) is = absurd (start.each k (Reserved i) is)
    by (Meets i) is = absurd (start.each k (Meets i) is)

-- all pairs are settled: these are the choices
module _ (logs : List (Bor Family)) (wild : List Bool) (reserved : List Path) (passed begun choices : List Choice) (pairs : List Pair) (first : ArePassed logs wild passed) (opened : AreOpened logs reserved passed begun) (have : HavePairs logs begun pairs) (done : AreSettled begun pairs (length pairs) choices)
  where
    among : (i k : ℕ) → i < k → IsKeptAt begun i → IsKeptAt begun k → MeetAt logs i k → IsPairAmong pairs (length pairs) i k
    among i k lt kept_i kept_k m = contains_read pairs (pair_at i k) (have.each i k lt kept_i kept_k m)

    sound : (i k : ℕ) → IsPairAmong pairs (length pairs) i k → IsPair logs (pair_at i k)
    sound i k m = All-contains (IsPair logs) pairs (pair_at i k) have.sound (contains_from pairs m.0 (pair_at i k) m.2)

    open_at : (k : ℕ) → IsKeptAt begun k → IsUnbarred logs reserved passed k
    open_at k h = opened.each k Kept h

    own_at : (k : ℕ) → IsKeptAt begun k → IsOwn logs wild k
    own_at k h = first.each k Kept (open_at k h).kept

    shut_at : (k i : ℕ) → slice_get begun k ≡ Some (Reserved i) → IsShut logs reserved passed k i
    shut_at k i h = opened.each k (Reserved i) h

    chosen : (k : ℕ) (c : Choice) → slice_get choices k ≡ Some c → IsChoice logs wild reserved choices k c
    chosen k Kept h = record {
      new = (own_at k (done.kept k h)).new;
      no_member = (own_at k (done.kept k h)).no_member;
      free = (open_at k (done.kept k h)).free;
      apart = λ j lt kept m. done.apart k j (among j k lt (done.kept j kept) (done.kept k h) m) h kept;
    }
    chosen k (Again i) h = first.each k (Again i) (opened.each k (Again i) (done.again k i h))
    chosen k (MemberOf i) h = first.each k (MemberOf i) (opened.each k (MemberOf i) (done.joined k i h))
    chosen k (Reserved i) h =
        let shut = shut_at k i (done.barred k i h) in
        let own : IsOwn logs wild k = first.each k Kept shut.kept in
        record { new = own.new; no_member = own.no_member; has = shut.has; first = shut.first }
    chosen k (Meets i) h =
        let new = done.met_new k i h in
        let pair = done.met_pair k i h in
        let is = sound i k pair in
        record {
          new = (own_at k new).new;
          no_member = (own_at k new).no_member;
          free = (open_at k new).free;
          before = is.0;
          kept = done.met_kept k i h;
          meet = is.1;
          first = λ j lt kept m. done.met_first k i j h lt (among j k (omega (arith, is.0, lt)) (done.kept j kept) new m) kept;
        }

    pub all_chosen : AreChosen logs wild reserved choices
    all_chosen = record { as_many = done.as_many ∙ (opened.as_many ∙ first.as_many); each = chosen }
