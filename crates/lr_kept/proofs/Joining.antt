-- Which matches of wildcards are passed over, pair by pair.
use Rattle.std.proofs.Common.{◌≡◌, ◌≢◌, ◌∙◌, sym, ap, subst, refl, inl, inr, ⊎_elim, ◌⊎◌, ◌↔◌, ℕ, ◌<◌, ◌≤◌, ◌+◌, min, List, length, set, length-set, Bool, true, Some, slice_get, arith}
use Rattle.std.specs.Borrow.{Bor}
use Rattle.std.proofs.lemmas.Bool.{cases_lt, cases_eq, cases_order}
use Rattle.std.proofs.lemmas.Option.{slice_get_within, slice_get-get_or}
use Rattle.lr_rules.specs.Names.{the_log}
use Rattle.lr_family.specs.declared.family.Family.{Family}
use Rattle.lr_family.specs.Parts.{IsMember}
use Rattle.lr_family.proofs.Names.{member_own}
use Rattle.lr_kept.specs.declared.choice.Choice.{Choice}
use Rattle.lr_kept.specs.declared.choice.Choice.TheVariants.{Kept, Again, MemberOf, Reserved, Meets}
use Rattle.lr_kept.specs.declared.pair.Pair.{Pair}
use Rattle.lr_kept.specs.Begun.{AreBegun}
use Rattle.lr_kept.specs.Chosen.{IsNew, IsKeptAt, MeetAt, IsMemberOf, IsWild, IsMatchedMember}
use Rattle.lr_kept.specs.Members.{IsPassed, ArePassed, IsFirstFound, lowered, MayJoin, Joins}
use Rattle.lr_kept.specs.Pairs.{pair_at, IsPair, HavePairs, IsPairAmong}
use Rattle.lr_kept.proofs.Elements.{same_read, read_set_same, read_set_other, contains_read}
use Rattle.lr_kept.proofs.Outcome.{among_more}
use Rattle.lr_kept.proofs.Pairing.{back_at}

-- ---- a log meets its members

member_meets : (logs : List (Bor Family)) (i k : ℕ) → IsMemberOf logs i k → MeetAt logs i k
member_meets logs i k m = record {
  one = m.one;
  other = m.other;
  at_one = m.at_one;
  at_other = m.at_other;
  holds = (m.other.now.log, inl (member_own m.one.now.log m.one.now.naming m.other.now.log m.holds, inl (the_log refl)));
}

-- of two logs that are read it is known whether the path of the one is a member's of the other
pub matched_decided : (logs : List (Bor Family)) (wild : List Bool) (k i : ℕ) (f g : Bor Family) → slice_get logs i ≡ Some f → slice_get logs k ≡ Some g → IsWild wild k → (r : Bool) → (r ≡ true) ↔ IsMember f.now.naming g.now.log → (r ≡ true) ↔ (IsWild wild k × IsMemberOf logs i k)
matched_decided logs wild k i f g at_i at_k is r decided = (
  λ h. (is, record { one = f; other = g; at_one = at_i; at_other = at_k; holds = decided.0 h }),
  λ h. decided.1 (subst (λ (x : Bor Family). IsMember x.now.naming g.now.log) (same_read logs i h.1.one f h.1.at_one at_i)
      (subst (λ (x : Bor Family). IsMember h.1.one.now.naming x.now.log) (same_read logs k h.1.other g h.1.at_other at_k) h.1.holds)),
)

-- ---- the choices so far

-- So the choices stand once it was asked of these paths whether they are members of those logs.
pub record HavePassed (logs : List (Bor Family)) (wild : List Bool) (begun : List Choice) (Asked : ℕ → ℕ → Type 0) (choices : List Choice) : Type 0 where
  pub as_many : length choices ≡ length begun
  pub kept : (k : ℕ) → IsKeptAt choices k → IsKeptAt begun k
  pub again : (k i : ℕ) → slice_get choices k ≡ Some (Again i) → slice_get begun k ≡ Some (Again i)
  pub reserved : (k i : ℕ) → slice_get choices k ≡ Some (Reserved i) → ⊥
  pub meets : (k i : ℕ) → slice_get choices k ≡ Some (Meets i) → ⊥
  pub joined : (k i : ℕ) → slice_get choices k ≡ Some (MemberOf i) → IsKeptAt begun k
  pub is : (k i : ℕ) → slice_get choices k ≡ Some (MemberOf i) → IsMatchedMember logs wild k i
  pub none : (k i : ℕ) → IsKeptAt choices k → Asked k i → IsMatchedMember logs wild k i → ⊥
  pub first : (k i j : ℕ) → slice_get choices k ≡ Some (MemberOf i) → j < i → Asked k j → IsMatchedMember logs wild k j → ⊥

-- Of a log of which a path is a member, and one that is known already, this one counts.
pub record Lowest (c : Choice) (i l : ℕ) : Type 0 where
  pub at_most : l ≤ i
  pub known : (j : ℕ) → c ≡ MemberOf j → l ≤ j
  pub which : (l ≡ i) ⊎ (c ≡ MemberOf l)

module _ (logs : List (Bor Family)) (wild : List Bool) (begun : List Choice) (start : AreBegun logs begun) where
  new_at : (k : ℕ) → IsKeptAt begun k → IsNew logs k
  new_at k h = start.each k Kept h

  -- the path at this place wasn't found before where it isn't said
  pub kept_at : (k : ℕ) → k < length logs → IsNew logs k → IsKeptAt begun k
  kept_at k lt new = by _ (slice_get-get_or begun k Kept (omega (arith, start.as_many)))
    where
      by : (c : Choice) → slice_get begun k ≡ Some c → IsKeptAt begun k
      by Kept h = h
      by (Again i) h = let a = start.each k (Again i) h in absurd (new i a.before a.same)
      by (MemberOf i) h = absurd (start.each k (MemberOf i) h)
      by (Reserved i) h = absurd (start.each k (Reserved i) h)
      by (Meets i) h = absurd (start.each k (Meets i) h)

  pub begins_passed : (Asked : ℕ → ℕ → Type 0) → ((k i : ℕ) → Asked k i → ⊥) → HavePassed logs wild begun Asked begun
  begins_passed Asked nothing = record {
    as_many = refl;
    kept = λ k h. h;
    again = λ k i h. h;
    reserved = λ k i h. start.each k (Reserved i) h;
    meets = λ k i h. start.each k (Meets i) h;
    joined = λ k i h. absurd (start.each k (MemberOf i) h);
    is = λ k i h. absurd (start.each k (MemberOf i) h);
    none = λ k i h a. absurd (nothing k i a);
    first = λ k i j h lt a. absurd (nothing k j a);
  }

  module _ (Asked More : ℕ → ℕ → Type 0) (old : List Choice) (so_far : HavePassed logs wild begun Asked old) (k i : ℕ) (within_k : k < length logs) (within_i : i < length logs) (other : i ≢ k) (more : (p l : ℕ) → More p l → Asked p l ⊎ ((p ≡ k) × (l ≡ i))) where
    -- what isn't said to be found before is kept since it began, or passed over by now
    first_kept : (p : ℕ) → p < length logs → IsFirstFound old p → IsKeptAt begun p
    first_kept p lt first = by _ (slice_get-get_or old p Kept (omega (arith, start.as_many, so_far.as_many)))
      where
        by : (c : Choice) → slice_get old p ≡ Some c → IsKeptAt begun p
        by Kept h = so_far.kept p h
        by (Again j) h = absurd (first j h)
        by (MemberOf j) h = so_far.joined p j h
        by (Reserved j) h = absurd (so_far.reserved p j h)
        by (Meets j) h = absurd (so_far.meets p j h)

    -- where the path is a member it may be joined
    may_join : IsKeptAt begun k → IsMatchedMember logs wild k i → MayJoin logs wild old k i
    may_join kept m = record {
      matched = m.matched;
      member = m.member;
      path_first = λ j h. absurd (cc (kept, so_far.again k j h));
      log_first = λ j h. absurd (cc (kept_at i within_i m.new, so_far.again i j h));
    }

    passed : (MayJoin logs wild old k i → ⊥) → HavePassed logs wild begun More old
    passed not = record {
      as_many = so_far.as_many;
      kept = so_far.kept;
      again = so_far.again;
      reserved = so_far.reserved;
      meets = so_far.meets;
      joined = so_far.joined;
      is = so_far.is;
      none = λ p l h a m. ⊎_elim
          (λ (o : Asked p l). so_far.none p l h o m)
          (λ e. not (may_join (subst (λ s. IsKeptAt begun s) e.0 (so_far.kept p h)) (here p l e.0 e.1 m)))
          (more p l a);
      first = λ p l j h lt a m. ⊎_elim
          (λ (o : Asked p j). so_far.first p l j h lt o m)
          (λ e. not (may_join (subst (λ s. IsKeptAt begun s) e.0 (so_far.joined p l h)) (here p j e.0 e.1 m)))
          (more p j a);
    }
      where
        here : (p l : ℕ) → p ≡ k → l ≡ i → IsMatchedMember logs wild p l → IsMatchedMember logs wild k i
        here p l e f m = subst (λ s. IsMatchedMember logs wild k s) f (subst (λ s. IsMatchedMember logs wild s l) e m)

    module _ (may : MayJoin logs wild old k i) (c : Choice) (was : slice_get old k ≡ Some c) where
      abbrev new : List Choice
      new = set old k (lowered c i)

      kept_k : IsKeptAt begun k
      kept_k = first_kept k within_k may.path_first

      matched : IsMatchedMember logs wild k i
      matched = record { matched = may.matched; other = other; new = new_at i (first_kept i within_i may.log_first); member = may.member }

      at_k : slice_get new k ≡ Some (lowered c i)
      at_k = read_set_same old k (lowered c i) (slice_get_within old k c was)

      elsewhere : (p : ℕ) → p ≢ k → slice_get new p ≡ slice_get old p
      elsewhere p ne = read_set_other old k p (lowered c i) ne

      only : (l : ℕ) → l ≡ i → ((j : ℕ) → c ≡ MemberOf j → ⊥) → Lowest c i l
      only l q never = record { at_most = omega (arith, q); known = λ j h. absurd (never j h); which = inl q }

      -- the log that counts is this one or the one that is known, and no later one
      lowest : (l : ℕ) (d : Choice) → c ≡ d → MemberOf l ≡ lowered d i → Lowest c i l
      lowest l (MemberOf j) is e =
          let same : l ≡ min i j = cc e in
          ⊎_elim
          (λ (lo : i < j). let q : l ≡ i = omega arith in record { at_most = omega arith; known = λ s h. let r : j ≡ s = cc (is, h) in omega arith; which = inl q })
          (λ (hi : j ≤ i). let q : j ≡ l = omega arith in record { at_most = omega arith; known = λ s h. let r : j ≡ s = cc (is, h) in omega arith; which = inr (is ∙ ap (λ s. MemberOf s) q) })
          (cases_lt i j)
      lowest l Kept is e = only l (cc e) (λ j h. cc (is, h))
      lowest l (Again s) is e = only l (cc e) (λ j h. cc (is, h))
      lowest l (Reserved s) is e = only l (cc e) (λ j h. cc (is, h))
      lowest l (Meets s) is e = only l (cc e) (λ j h. cc (is, h))

      -- nothing else is there at this place
      at_this : (d : Choice) → slice_get new k ≡ Some d → d ≡ lowered c i
      at_this d h = same_read new k d (lowered c i) h at_k

      is_member : (b : Choice) → (l : ℕ) × (lowered b i ≡ MemberOf l)
      is_member (MemberOf j) = (min i j, refl)
      is_member Kept = (i, refl)
      is_member (Again s) = (i, refl)
      is_member (Reserved s) = (i, refl)
      is_member (Meets s) = (i, refl)

      -- what is no member is elsewhere
      apart_from : (p : ℕ) (d : Choice) → ((l : ℕ) → d ≡ MemberOf l → ⊥) → slice_get new p ≡ Some d → slice_get old p ≡ Some d
      apart_from p d never h = ⊎_elim
          (λ (e : p ≡ k). let m = is_member c in absurd (never m.0 (at_this d (ap (λ s. slice_get new s) (sym e) ∙ h) ∙ m.1)))
          (λ (ne : p ≡ k → ⊥). sym (elsewhere p ne) ∙ h)
          (cases_eq p k)

      member_cases : (p l : ℕ) → slice_get new p ≡ Some (MemberOf l) → ((p ≡ k) × Lowest c i l) ⊎ (slice_get old p ≡ Some (MemberOf l))
      member_cases p l h = ⊎_elim
          (λ (e : p ≡ k). inl (e, lowest l c refl (at_this (MemberOf l) (ap (λ s. slice_get new s) (sym e) ∙ h))))
          (λ (ne : p ≡ k → ⊥). inr (sym (elsewhere p ne) ∙ h))
          (cases_eq p k)

      joined_joined : (p l : ℕ) → slice_get new p ≡ Some (MemberOf l) → IsKeptAt begun p
      joined_joined p l h = ⊎_elim
          (λ e. subst (λ s. IsKeptAt begun s) (sym e.0) kept_k)
          (λ o. so_far.joined p l o)
          (member_cases p l h)

      joined_is : (p l : ℕ) → slice_get new p ≡ Some (MemberOf l) → IsMatchedMember logs wild p l
      joined_is p l h = ⊎_elim
          (λ e. subst (λ s. IsMatchedMember logs wild s l) (sym e.0) (⊎_elim
          (λ (q : l ≡ i). subst (λ s. IsMatchedMember logs wild k s) (sym q) matched)
          (λ (q : c ≡ MemberOf l). so_far.is k l (was ∙ ap (λ (d : Choice). Some d) q))
          e.1.which))
          (λ o. so_far.is p l o)
          (member_cases p l h)

      joined_none : (p l : ℕ) → IsKeptAt new p → More p l → IsMatchedMember logs wild p l → ⊥
      joined_none p l h a m = ⊎_elim
          (λ (o : Asked p l). so_far.none p l (apart_from p Kept (λ s e. cc e) h) o m)
          (λ e. let t = is_member c in absurd (cc (at_this Kept (ap (λ s. slice_get new s) (sym e.0) ∙ h), t.1)))
          (more p l a)

      -- of those that were asked before none before the one that is known
      before : (b : Choice) → c ≡ b → (l : ℕ) → Lowest c i l → (j : ℕ) → j < l → Asked k j → IsMatchedMember logs wild k j → ⊥
      before (MemberOf s) is l low j lt a m = so_far.first k s j (was ∙ ap (λ (d : Choice). Some d) is) (let le = low.known s is in omega (arith, le, lt)) a m
      before Kept is l low j lt a m = so_far.none k j (was ∙ ap (λ (d : Choice). Some d) is) a m
      before (Again s) is l low j lt a m = absurd (may.path_first s (was ∙ ap (λ (d : Choice). Some d) is))
      before (Reserved s) is l low j lt a m = absurd (so_far.reserved k s (was ∙ ap (λ (d : Choice). Some d) is))
      before (Meets s) is l low j lt a m = absurd (so_far.meets k s (was ∙ ap (λ (d : Choice). Some d) is))

      joined_first : (p l j : ℕ) → slice_get new p ≡ Some (MemberOf l) → j < l → More p j → IsMatchedMember logs wild p j → ⊥
      joined_first p l j h lt a m = ⊎_elim
          (λ (o : Asked p j). ⊎_elim
          (λ e. before c refl l e.1 j lt (subst (λ s. Asked s j) e.0 o) (subst (λ s. IsMatchedMember logs wild s j) e.0 m))
          (λ f. so_far.first p l j f lt o m)
          (member_cases p l h))
          (λ e. ⊎_elim
          (λ f. let le = f.1.at_most in omega (arith, le, lt, e.1))
          (λ f. let low = lowest l c refl (at_this (MemberOf l) (ap (λ s. slice_get new s) (sym e.0) ∙ h)) in let le = low.at_most in omega (arith, le, lt, e.1))
          (member_cases p l h))
          (more p j a)

      joined : HavePassed logs wild begun More (set old k (lowered c i))
      joined = record {
        as_many = length-set old k (lowered c i) ∙ so_far.as_many;
        kept = λ p h. so_far.kept p (apart_from p Kept (λ l e. cc e) h);
        again = λ p s h. so_far.again p s (apart_from p (Again s) (λ l e. cc e) h);
        reserved = λ p s h. so_far.reserved p s (apart_from p (Reserved s) (λ l e. cc e) h);
        meets = λ p s h. so_far.meets p s (apart_from p (Meets s) (λ l e. cc e) h);
        joined = joined_joined;
        is = joined_is;
        none = joined_none;
        first = joined_first;
      }

    pub more_passed : (now : List Choice) → Joins logs wild k i old now → HavePassed logs wild begun More now
    more_passed now (inl h) = subst (λ (cs : List Choice). HavePassed logs wild begun More cs) (sym h.1.2) (joined h.0 h.1.0 h.1.1)
    more_passed now (inr h) = subst (λ (cs : List Choice). HavePassed logs wild begun More cs) (sym h.1) (passed h.0)

-- ---- over the pairs

-- it was asked of one of the first n pairs, in both orders
abbrev pub AskedBy : List Pair → ℕ → ℕ → ℕ → Type 0
AskedBy pairs n k i = IsPairAmong pairs n i k ⊎ IsPairAmong pairs n k i

-- of the next pair it was asked whether the later log is a member
abbrev AskedOnce : List Pair → ℕ → Pair → ℕ → ℕ → Type 0
AskedOnce pairs n p k i = AskedBy pairs n k i ⊎ ((k ≡ p.later) × (i ≡ p.earlier))

pub both_passed : (logs : List (Bor Family)) (wild : List Bool) (begun : List Choice) → AreBegun logs begun → (pairs : List Pair) (n : ℕ) (p : Pair) → slice_get pairs n ≡ Some p → IsPair logs p → (old mid now : List Choice) → HavePassed logs wild begun (AskedBy pairs n) old
    → Joins logs wild p.later p.earlier old mid → Joins logs wild p.earlier p.later mid now → HavePassed logs wild begun (AskedBy pairs (n + 1)) now
both_passed logs wild begun start pairs n p at is old mid now so_far one other =
    more_passed logs wild begun start (AskedOnce pairs n p) (AskedBy pairs (n + 1)) mid
    (more_passed logs wild begun start (AskedBy pairs n) (AskedOnce pairs n p) old so_far p.later p.earlier later_in earlier_in (λ e. omega (arith, e, is.0)) (λ k i a. a) mid one)
    p.earlier p.later earlier_in later_in (λ e. omega (arith, e, is.0)) rest now other
  where
    later_in : p.later < length logs
    later_in = slice_get_within logs p.later is.1.other is.1.at_other

    earlier_in : p.earlier < length logs
    earlier_in = slice_get_within logs p.earlier is.1.one is.1.at_one

    rest : (k i : ℕ) → AskedBy pairs (n + 1) k i → AskedOnce pairs n p k i ⊎ ((k ≡ p.earlier) × (i ≡ p.later))
    rest k i (inl m) = ⊎_elim (λ (o : IsPairAmong pairs n i k). inl (inl (inl o))) (λ e. inl (inr (e.1, e.0))) (among_more pairs n p at i k m)
    rest k i (inr m) = ⊎_elim (λ (o : IsPairAmong pairs n k i). inl (inl (inr o))) (λ e. inr (e.0, e.1)) (among_more pairs n p at k i m)

-- ---- at the end

pub all_passed : (logs : List (Bor Family)) (wild : List Bool) (begun choices : List Choice) (pairs : List Pair) → AreBegun logs begun → HavePairs logs begun pairs → HavePassed logs wild begun (AskedBy pairs (length pairs)) choices → ArePassed logs wild choices
all_passed logs wild begun choices pairs start have done = record { as_many = done.as_many ∙ start.as_many; each = each }
  where
    there : (i k : ℕ) → i < k → IsKeptAt begun i → IsKeptAt begun k → MeetAt logs i k → IsPairAmong pairs (length pairs) i k
    there i k lt kept_i kept_k m = contains_read pairs (pair_at i k) (have.each i k lt kept_i kept_k m)

    asked : (k i : ℕ) → IsKeptAt begun k → IsMatchedMember logs wild k i → AskedBy pairs (length pairs) k i
    asked k i kept m =
        let kept_i = kept_at logs wild begun start i (slice_get_within logs i m.member.one m.member.at_one) m.new in
        let meets = member_meets logs i k m.member in
        ⊎_elim
        (λ (e : i ≡ k). absurd (m.other e))
        (λ s. ⊎_elim
        (λ (lt : i < k). inl (there i k lt kept_i kept meets))
        (λ (lt : k < i). inr (there k i lt kept kept_i (back_at logs i k meets)))
        s)
        (cases_order i k)

    each : (k : ℕ) (c : Choice) → slice_get choices k ≡ Some c → IsPassed logs wild k c
    each k Kept h = record { new = start.each k Kept (done.kept k h); no_member = λ i m. done.none k i h (asked k i (done.kept k h) m) m }
    each k (Again i) h = start.each k (Again i) (done.again k i h)
    each k (MemberOf i) h = record {
      new = start.each k Kept (done.joined k i h);
      is = done.is k i h;
      first = λ j lt m. done.first k i j h lt (asked k j (done.joined k i h) m) m;
    }
    each k (Reserved i) h = done.reserved k i h
    each k (Meets i) h = done.meets k i h
