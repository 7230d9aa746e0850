-- The members that go behind the moves are some of those that stand, in their order.
use Rattle.std.proofs.Common.{◌≡◌, ℕ, zero, suc, ◌+◌, ◌<◌, ◌==◌, Bool, true, false, not, ◌&&◌, ◌||◌, cond, List, [], ◌∷◌, map, reverse, Option, refl, sym, ap, ◌∙◌, subst, arith, eqb-true}
use Rattle.std.specs.Prelude.{ℤ, All, Any, Contains, filter}
use Rattle.std.specs.List.{list_any, AllPairs}
use Rattle.std.specs.List.Sorted.{IsStrictlyIncreasing}
use Rattle.std.proofs.lemmas.Bool.{and_from, and_parts, not_from_false, or_left, not-true}
use Rattle.std.proofs.lemmas.List.{reverse-reverse}
use Rattle.std.proofs.lemmas.List.Elements.{All-head, All-tail, All-cons, All-nil, All-map}
use Rattle.std.proofs.lemmas.List.Folds.{Any-from_list_any, list_any-from_Any}
use Rattle.std.proofs.lemmas.List.Kept.{AllPairs-cons, AllPairs-filter, AllPairs-from_increasing}
use Rattle.lr_rules.specs.declared.rule.Count.{Count}
use Rattle.lr_family.specs.declared.stand.Member.{Member}
use Rattle.lr_family.specs.Stands.{number_in}
use Rattle.lr_chain.specs.Rotation.{places_of, is_left, is_expired, goes, going}
use Rattle.lr_chain.specs.Standing.{AreGoing}
use Rattle.lr_chain.proofs.Has.{has, has_it, it_has, has_reverse}

-- numbers that rise, by the members that have them
all_of : (P : ℕ → Type 0) (members : List Member) → All P (map (λ m. number_in m.place) members) → All (λ m. P (number_in m.place)) members
all_of P [] h = All-nil (λ m. P (number_in m.place))
all_of P (m ∷ members) h = All-cons (λ m. P (number_in m.place)) m members (All-head P (number_in m.place) (map (λ m. number_in m.place) members) h) (all_of P members (All-tail P (number_in m.place) (map (λ m. number_in m.place) members) h))

abbrev Rise : List Member → Type 0
Rise members = AllPairs (λ a b. number_in a.place < number_in b.place) members

rise_from : (members : List Member) → AllPairs (λ a b. a < b) (map (λ m. number_in m.place) members) → Rise members
rise_from [] h = λ i j d lt within. absurd (omega arith)
rise_from (m ∷ members) h = AllPairs-cons (λ a b. number_in a.place < number_in b.place) m members
    (all_of (λ k. number_in m.place < k) members (λ k d lt. h zero (suc k) d (omega arith) (omega arith)))
    (rise_from members (λ i j d lt within. h (suc i) (suc j) d (omega arith) (omega arith)))

rise_to : (members : List Member) → Rise members → AllPairs (λ a b. a < b) (map (λ m. number_in m.place) members)
rise_to [] h = λ i j d lt within. absurd (omega arith)
rise_to (m ∷ members) h = AllPairs-cons (λ a b. a < b) (number_in m.place) (map (λ m. number_in m.place) members)
    (All-map (λ k. number_in m.place < k) (λ m. number_in m.place) members (λ k d lt. h zero (suc k) d (omega arith) (omega arith)))
    (rise_to members (λ i j d lt within. h (suc i) (suc j) d (omega arith) (omega arith)))

filter_rises : (p : Member → Bool) (members : List Member) → IsStrictlyIncreasing (reverse (places_of members)) → IsStrictlyIncreasing (reverse (places_of (filter p members)))
filter_rises p members h = subst IsStrictlyIncreasing (sym (reverse-reverse (map (λ m. number_in m.place) (filter p members))))
    (λ k within. rise_to (filter p members) (AllPairs-filter (λ a b. number_in a.place < number_in b.place) p members (rise_from members
    (AllPairs-from_increasing (map (λ m. number_in m.place) members) (subst IsStrictlyIncreasing (reverse-reverse (map (λ m. number_in m.place) members)) h)))) k (k + 1) 0 (omega arith) within)

-- a member stands at the place
abbrev is_at : ℕ → Member → Bool
is_at k m = number_in m.place == k

has_map : (k : ℕ) (members : List Member) → has k (map (λ m. number_in m.place) members) ≡ list_any (is_at k) members
has_map k [] = refl
has_map k (m ∷ members) = ap (λ b. is_at k m || b) (has_map k members)

has_places : (k : ℕ) (members : List Member) → has k (places_of members) ≡ list_any (is_at k) members
has_places k members = has_reverse k (map (λ m. number_in m.place) members) ∙ has_map k members

any_filter : (q p : Member → Bool) (members : List Member) → list_any q (filter p members) ≡ list_any (λ m. p m && q m) members
any_filter q p [] = refl
any_filter q p (m ∷ members) = go (p m) (any_filter q p members)
  where
    go : (b : Bool) → list_any q (filter p members) ≡ list_any (λ m. p m && q m) members → list_any q (cond b (m ∷ filter p members) (filter p members)) ≡ ((b && q m) || list_any (λ m. p m && q m) members)
    go true r = ap (λ t. q m || t) r
    go false r = r

pub going_are : (c : Count) (maxage : Option ℕ) (now : ℤ) (members : List Member) → IsStrictlyIncreasing (reverse (places_of members)) → AreGoing c (places_of members) (going c maxage now members)
going_are c maxage now members h = record {
  falling = filter_rises (goes c maxage now) members h;
  there = λ k at. (let a = one k at in it_has k (places_of members) (has_places k members ∙ list_any-from_Any (is_at k) members (a.0, a.1, a.2, a.3, (and_parts (goes c maxage now a.1) (is_at k a.1) a.4).1)));
  moved = λ k at. (let a = one k at in stays k a.1 (and_parts (goes c maxage now a.1) (is_at k a.1) a.4));
  full = λ k at stays full. (let a = Any-from_list_any (is_at k) members (sym (has_places k members) ∙ has_it k (places_of members) at) in
      it_has k (going c maxage now members) (has_places k (filter (goes c maxage now) members) ∙ (any_filter (is_at k) (goes c maxage now) members
      ∙ list_any-from_Any (λ m. goes c maxage now m && is_at k m) members (a.0, a.1, a.2, a.3, and_from (goes c maxage now a.1) (is_at k a.1) (no_room k a.1 a.4 stays full) a.4))));
}
  where
    -- the member at such a place
    one : (k : ℕ) → Contains (going c maxage now members) k → Any (λ m. (goes c maxage now m && is_at k m) ≡ true) members
    one k at = Any-from_list_any (λ m. goes c maxage now m && is_at k m) members
        (sym (any_filter (is_at k) (goes c maxage now) members) ∙ (sym (has_places k (filter (goes c maxage now) members)) ∙ has_it k (going c maxage now members) at))

    stays : (k : ℕ) (m : Member) → (goes c maxage now m ≡ true) × (is_at k m ≡ true) → is_left c k ≡ false
    stays k m e = subst (λ (j : ℕ). is_left c j ≡ false) (eqb-true (number_in m.place) k e.1)
        (not-true (is_left c (number_in m.place)) (and_parts (not (is_left c (number_in m.place))) (is_left c (suc (number_in m.place)) || is_expired maxage now m) e.0).0)

    no_room : (k : ℕ) (m : Member) → is_at k m ≡ true → is_left c k ≡ false → is_left c (suc k) ≡ true → goes c maxage now m ≡ true
    no_room k m at stays full =
        let same : number_in m.place ≡ k = eqb-true (number_in m.place) k at in
        and_from (not (is_left c (number_in m.place))) (is_left c (suc (number_in m.place)) || is_expired maxage now m)
        (not_from_false (is_left c (number_in m.place)) (ap (is_left c) same ∙ stays))
        (or_left (is_left c (suc (number_in m.place))) (is_expired maxage now m) (ap (λ (j : ℕ). is_left c (suc j)) same ∙ full))
