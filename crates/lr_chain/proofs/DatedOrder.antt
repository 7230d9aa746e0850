-- With the log among them, the members are in order.
use Rattle.std.proofs.Common.{◌≡◌, ◌⊎◌, inl, inr, ⊎_elim, ℕ, ℤ, ◌<◌, ◌≤◌, ◌<ℤ◌, T, Bool, true, false, cond, List, [], ◌∷◌, map, Ordering, Less, Equal, Greater, refl, sym, ap, subst, arith, Option}
use Rattle.std.specs.Prelude.{IsSome, int_lt}
use Rattle.std.specs.List.{AllByRecursion}
use Rattle.std.specs.List.Sorted.{IsStrictlySortedBy}
use Rattle.std.specs.Ordering.{MatchOrdering, int_cmp}
use Rattle.std.proofs.lemmas.Cmp.{int_ranked}
use Rattle.std.proofs.lemmas.Int.{ints}
use Rattle.std.proofs.lemmas.List.Elements.{All-head, All-tail}
use Rattle.lr_rules.specs.declared.path.Path.{Path}
use Rattle.lr_rules.specs.declared.rule.Naming.{Naming}
use Rattle.lr_rules.specs.Dated.{stamp_key, IsDatedAt}
use Rattle.lr_family.specs.declared.place.Place.{Place}
use Rattle.lr_family.specs.declared.place.Place.TheVariants as at
use Rattle.lr_family.specs.declared.stand.Member.{Member}
use Rattle.lr_family.specs.Places.{IsPlaceOf, AreNamed}
use Rattle.lr_family.specs.Stands.{key_in, by_newness, AreNewestFirst}
use Rattle.lr_family.proofs.Newness.{dated_small, same_seconds, same_serial, key_below}
use Rattle.lr_family.proofs.Placed.{some_dated, no_number}
use Rattle.lr_chain.specs.DatedRotation.{Ranked, key_of, AreBelow, AreFalling, AreDatedAt}
use Rattle.lr_chain.specs.Serials.{IsNext}
use Rattle.lr_chain.specs.DatedReady.{seconds_in, serial_in, ranked, renamed, with_one, all_of}
use Rattle.lr_chain.proofs.Removed.{rank_key}
use Rattle.lr_chain.proofs.Newest.{HasOne, IsStamp, any_in}

-- ---- keys

trans : (a b c : ℤ) → a <ℤ b → b <ℤ c → a <ℤ c
trans a b c p q = omega (arith, ints, p, q)

-- a member has another key than the one that comes next
key_apart : (n : Naming) (place : Place) (x : Path) (t : ℤ) (k : ℕ) → IsSome n.dated → IsPlaceOf n place x → k ≤ 4294967295 → ((l : ℕ) → place ≡ at.Stamp t l → l < k) → key_in place ≡ stamp_key t k → ⊥
key_apart n (at.Number p) x t k some is small above e = absurd (no_number n p x some is)
key_apart n (at.Stamp u l) x t k some is small above e =
    let lt : l < k = above l (ap (λ (v : ℤ). at.Stamp v l) (same_seconds u t l k (dated_small n u l x is) small e)) in
    let same : l ≡ k = same_serial u t l k (dated_small n u l x is) small e in
    omega (arith, lt, same)

-- it is above or below
sides : (n : Naming) (m : Member) (t : ℤ) (k : ℕ) → IsSome n.dated → IsPlaceOf n m.place m.path → k ≤ 4294967295 → ((l : ℕ) → m.place ≡ at.Stamp t l → l < k) → (stamp_key t k <ℤ key_in m.place) ⊎ (key_in m.place <ℤ stamp_key t k)
sides n m t k some is small above = go (int_cmp (stamp_key t k) (key_in m.place)) (int_ranked (stamp_key t k) (key_in m.place) _ refl)
  where
    go : (o : Ordering) → MatchOrdering o (stamp_key t k <ℤ key_in m.place) (stamp_key t k ≡ key_in m.place) (key_in m.place <ℤ stamp_key t k) → (stamp_key t k <ℤ key_in m.place) ⊎ (key_in m.place <ℤ stamp_key t k)
    go Less h = inl h
    go Equal h = absurd (key_apart n m.place m.path t k some is small above (sym h))
    go Greater h = inr h

-- ---- the members alone

below_all : (maxage : Option ℕ) (now : ℤ) (m : Member) (ms : List Member) → AllByRecursion (λ y. by_newness m y ≡ Less) ms → AreBelow (key_of (ranked maxage now m)) (map (ranked maxage now) ms)
below_all maxage now m [] a = tt
below_all maxage now m (y ∷ ys) a = (subst (λ (u : ℤ). u <ℤ key_of (ranked maxage now m)) (sym (rank_key y.place)) (subst (λ (u : ℤ). key_in y.place <ℤ u) (sym (rank_key m.place)) (key_below (key_in m.place) (key_in y.place) a.0)), below_all maxage now m ys a.1)

pub members_fall : (maxage : Option ℕ) (now : ℤ) (ms : List Member) → AreNewestFirst ms → AreFalling (map (ranked maxage now) ms)
unfolding IsStrictlySortedBy
members_fall maxage now [] s = tt
members_fall maxage now (m ∷ ms) s = (below_all maxage now m ms s.0, members_fall maxage now ms s.1)

-- ---- with the log

below_more : (key other : ℤ) (ms : List Ranked) → other <ℤ key → AreBelow other ms → AreBelow key ms
below_more key other [] lt b = tt
below_more key other (m ∷ ms) lt b = (trans (key_of m) other key b.0 lt, below_more key other ms lt b.1)

below_with : (key : ℤ) (one : Ranked) (ms : List Ranked) → key_of one <ℤ key → AreBelow key ms → AreBelow key (with_one one ms)
below_with key one [] lt b = (lt, tt)
below_with key one (m ∷ ms) lt b = go (int_lt (key_of one) (key_of m)) (below_with key one ms lt b.1)
  where
    go : (c : Bool) → AreBelow key (with_one one ms) → AreBelow key (cond c (m ∷ with_one one ms) (one ∷ m ∷ ms))
    go true r = (b.0, r)
    go false r = (lt, b)

-- each of the others is above or below
abbrev AreApart : ℤ → List Ranked → Type 0
AreApart key [] = Unit {0}
AreApart key (m ∷ ms) = ((key <ℤ key_of m) ⊎ (key_of m <ℤ key)) × AreApart key ms

pub lt_true : (a b : ℤ) → int_lt a b ≡ true → a <ℤ b
lt_true a b e = record { lt = subst (λ c. T c) (sym e) tt }

lt_not : (a b : ℤ) → int_lt a b ≡ false → a <ℤ b → ⊥
lt_not a b e h = let t : T false = subst (λ c. T c) e h.lt in t

with_falls : (one : Ranked) (ms : List Ranked) → AreFalling ms → AreApart (key_of one) ms → AreFalling (with_one one ms)
with_falls one [] f a = (tt, tt)
with_falls one (m ∷ ms) f a = go (int_lt (key_of one) (key_of m)) refl (with_falls one ms f.1 a.1)
  where
    low : int_lt (key_of one) (key_of m) ≡ false → key_of m <ℤ key_of one
    low e = ⊎_elim (λ h. absurd (lt_not (key_of one) (key_of m) e h)) (λ h. h) a.0

    go : (c : Bool) → int_lt (key_of one) (key_of m) ≡ c → AreFalling (with_one one ms) → AreFalling (cond c (m ∷ with_one one ms) (one ∷ m ∷ ms))
    go true e r = (below_with (key_of m) one ms (lt_true (key_of one) (key_of m) e) f.0, r)
    go false e r = ((low e, below_more (key_of one) (key_of m) ms (low e) f.0), f)

apart_all : (n : Naming) (maxage : Option ℕ) (now t : ℤ) (k : ℕ) (ms : List Member) → IsSome n.dated → AreNamed n ms → k ≤ 4294967295 → ((l : ℕ) → HasOne (IsStamp t l) ms → l < k) → AreApart (stamp_key t k) (map (ranked maxage now) ms)
apart_all n maxage now t k [] some d small above = tt
apart_all n maxage now t k (m ∷ ms) some d small above = (
  subst (λ (u : ℤ). (stamp_key t k <ℤ u) ⊎ (u <ℤ stamp_key t k)) (sym (rank_key m.place)) (sides n m t k some (All-head (λ (m : Member). IsPlaceOf n m.place m.path) m ms d) small (λ l e. above l (inl e))),
  apart_all n maxage now t k ms some (All-tail (λ (m : Member). IsPlaceOf n m.place m.path) m ms d) small (λ l h. above l (inr h)),
)

pub all_fall : (n : Naming) (maxage : Option ℕ) (now t : ℤ) (k : ℕ) (target : Path) (members : List Member) → AreNewestFirst members → IsNext members t k → AreNamed n members → IsDatedAt n t k target → AreFalling (all_of maxage now t k target members)
all_fall n maxage now t k target members sorted next d is = with_falls (renamed t k target) (map (ranked maxage now) members) (members_fall maxage now members sorted) (apart_all n maxage now t k members (some_dated n t k target is) d (dated_small n t k target is) (λ l h. next.above l (any_in (IsStamp t l) members h)))

-- ---- each has the path of its stamp and serial number

ranked_dated : (n : Naming) (place : Place) (x : Path) → IsSome n.dated → IsPlaceOf n place x → IsDatedAt n (seconds_in place) (serial_in place) x
ranked_dated n (at.Stamp t k) x some is = is
ranked_dated n (at.Number p) x some is = absurd (no_number n p x some is)

members_dated : (n : Naming) (maxage : Option ℕ) (now : ℤ) (ms : List Member) → IsSome n.dated → AreNamed n ms → AreDatedAt n (map (ranked maxage now) ms)
members_dated n maxage now [] some d = tt
members_dated n maxage now (m ∷ ms) some d = (ranked_dated n m.place m.path some (All-head (λ (m : Member). IsPlaceOf n m.place m.path) m ms d), members_dated n maxage now ms some (All-tail (λ (m : Member). IsPlaceOf n m.place m.path) m ms d))

with_dated : (n : Naming) (one : Ranked) (ms : List Ranked) → IsDatedAt n one.seconds one.serial one.path → AreDatedAt n ms → AreDatedAt n (with_one one ms)
with_dated n one [] is d = (is, tt)
with_dated n one (m ∷ ms) is d = go (int_lt (key_of one) (key_of m)) (with_dated n one ms is d.1)
  where
    go : (c : Bool) → AreDatedAt n (with_one one ms) → AreDatedAt n (cond c (m ∷ with_one one ms) (one ∷ m ∷ ms))
    go true r = (d.0, r)
    go false r = (is, d)

pub all_dated : (n : Naming) (maxage : Option ℕ) (now t : ℤ) (k : ℕ) (target : Path) (members : List Member) → AreNamed n members → IsDatedAt n t k target → AreDatedAt n (all_of maxage now t k target members)
all_dated n maxage now t k target members d is = with_dated n (renamed t k target) (map (ranked maxage now) members) is (members_dated n maxage now members (some_dated n t k target is) d)
