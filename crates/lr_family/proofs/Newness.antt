-- The newest member first: members with different paths have different places.
use Rattle.std.proofs.Common.{◌≡◌, ℕ, ℤ, pos, neg_ℤ, ◌+◌, ◌<◌, ◌≤◌, ◌<ℤ◌, true, false, cond, List, [], ◌∷◌, ◌++◌, map, Option, Some, None, Ordering, Less, Equal, Greater, refl, sym, ap, ◌∙◌, subst, arith}
use Rattle.std.specs.Prelude.{All, flat_map}
use Rattle.std.specs.Ordering.{MatchOrdering, nat_cmp, int_cmp, is_eq, eq_by_cmp}
use Rattle.std.specs.Cmp.{IsTotalOrder, nat_cmp_is}
use Rattle.std.specs.List.{dedup, dedup_from, IsDistinct, AllByRecursion}
use Rattle.std.specs.List.Sorted.{IsPermutation, IsSorted, IsStrictlyIncreasing, IsStrictlySortedBy}
use Rattle.std.proofs.lemmas.Cmp.{int_cmp_total, int_ranked, on_total, back_total, eq_by_cmp_equiv}
use Rattle.std.proofs.lemmas.Int.{ints}
use Rattle.std.proofs.lemmas.List.Elements.{All-head, All-tail}
use Rattle.std.proofs.lemmas.List.Kept.{IsStrictlySortedBy-dedup}
use Rattle.std.proofs.lemmas.Map.Keys.{IsDistinct-from_sorted, IsDistinct-IsPermutation, IsStrictlyIncreasing-from_sorted}
use Rattle.std.proofs.lemmas.Slice.Eq.{bytes_eq-Decides}
use Rattle.lr_rules.specs.declared.path.Path.{Path}
use Rattle.lr_rules.specs.declared.rule.Naming.{Naming}
use Rattle.lr_rules.specs.Dated.{stamp_key, IsDatedAt}
use Rattle.lr_rules.specs.Limits.{is_format, or_none}
use Rattle.lr_rules.specs.Path.{joined}
use Rattle.lr_rules.proofs.Counts.{serial_small}
use Rattle.lr_stamps.proofs.Naming.{one_member}
use Rattle.lr_host.specs.declared.thing.Seen.{Seen}
use Rattle.lr_family.specs.declared.place.Place.{Place}
use Rattle.lr_family.specs.declared.place.Place.TheVariants as at
use Rattle.lr_family.specs.declared.spot.Spot.{Spot}
use Rattle.lr_family.specs.declared.stand.Member.{Member}
use Rattle.lr_family.specs.Looks.{MemberSight, seen_member, member_of, AreSeen}
use Rattle.lr_family.specs.Named.{member_name}
use Rattle.lr_family.specs.Places.{IsPlaceOf, AreNamed}
use Rattle.lr_family.specs.Spots.{HasPath, by_path, AreSpots}
use Rattle.lr_family.specs.Stands.{number_in, key_in, by_newness, HaveOwnPlaces, AreNewestFirst}
use Rattle.lr_family.proofs.Names.{no_format}
use Rattle.lr_family.proofs.Rising.{same_as}

-- ---- strictly sorted

module _ {X : Type 0} {R : X → X → Ordering} (total : IsTotalOrder R) where
  kept_from : (x : X) (xs : List X) → AllByRecursion (λ y. eq_by_cmp R x y ≡ false) xs → IsDistinct (eq_by_cmp R) xs → dedup_from (eq_by_cmp R) x xs ≡ x ∷ xs
  unfolding IsDistinct
  kept_from x [] a d = refl
  kept_from x (y ∷ ys) a d = ap (λ b. cond b (dedup_from (eq_by_cmp R) x ys) (x ∷ dedup_from (eq_by_cmp R) y ys)) ((eq_by_cmp_equiv total).symm y x ∙ a.0) ∙ ap (λ zs. x ∷ zs) (kept_from y ys d.0 d.1)

  kept : (xs : List X) → IsDistinct (eq_by_cmp R) xs → dedup (eq_by_cmp R) xs ≡ xs
  unfolding IsDistinct
  kept [] d = refl
  kept (x ∷ xs) d = kept_from x xs d.0 d.1

  -- what is sorted, and all different, is strictly sorted
  pub strictly : (xs : List X) → IsSorted R xs → IsDistinct (eq_by_cmp R) xs → IsStrictlySortedBy R xs
  strictly xs up d = subst (IsStrictlySortedBy R) (kept xs d) (IsStrictlySortedBy-dedup total (λ x y. refl) xs up)

pub by_newness_total : IsTotalOrder by_newness
by_newness_total = back_total (on_total (λ (m : Member). key_in m.place) int_cmp_total)

pub newest : (old sorted : List Member) → HaveOwnPlaces old → IsPermutation old sorted → IsSorted by_newness sorted → AreNewestFirst sorted
newest old sorted d p up = strictly by_newness_total sorted up (IsDistinct-IsPermutation (eq_by_cmp by_newness) (λ x y. (eq_by_cmp_equiv by_newness_total).symm x y) old sorted p d)

-- ---- different paths, different keys

pub dated_small : (n : Naming) (t : ℤ) (k : ℕ) (x : Path) → IsDatedAt n t k x → k ≤ 4294967295
dated_small n t k x a = serial_small a.format k a.is.numbered

pub same_seconds : (t u : ℤ) (k l : ℕ) → k ≤ 4294967295 → l ≤ 4294967295 → stamp_key t k ≡ stamp_key u l → t ≡ u
same_seconds t u k l i j e = omega (arith, ints, i, j, e)

pub same_serial : (t u : ℤ) (k l : ℕ) → k ≤ 4294967295 → l ≤ 4294967295 → stamp_key t k ≡ stamp_key u l → k ≡ l
same_serial t u k l i j e = omega (arith, ints, i, j, e)

same_number : (p q : ℕ) → stamp_key (neg_ℤ (pos p)) 0 ≡ stamp_key (neg_ℤ (pos q)) 0 → p ≡ q
same_number p q e = omega (arith, ints, e)

-- one key, one member
key_same : (n : Naming) (a b : Place) (x y : Path) → or_none is_format n.dated ≡ true → IsPlaceOf n a x → IsPlaceOf n b y → key_in a ≡ key_in b → x ≡ y
key_same n (at.Number p) (at.Number q) x y good hx hy e = hx.1.named ∙ (ap (λ (k : ℕ). joined n.dir (member_name n (n.start + k))) (same_number p q e) ∙ sym hy.1.named)
key_same n (at.Stamp t k) (at.Stamp u l) x y good hx hy e =
    let small = dated_small n t k x hx in
    let less = dated_small n u l y hy in
    one_member n t k x y good hx (subst (λ (j : ℕ). IsDatedAt n t j y) (sym (same_serial t u k l small less e)) (subst (λ (s : ℤ). IsDatedAt n s l y) (sym (same_seconds t u k l small less e)) hy))
key_same n (at.Number p) (at.Stamp u l) x y good hx hy e = absurd (no_format n.dated hx.0 hy.dated)
key_same n (at.Stamp t k) (at.Number q) x y good hx hy e = absurd (no_format n.dated hy.0 hx.dated)

-- members of different paths are apart
apart : (n : Naming) (a b : Spot) → or_none is_format n.dated ≡ true → HasPath n a → HasPath n b → eq_by_cmp by_path a b ≡ false → is_eq (int_cmp (key_in b.place) (key_in a.place)) ≡ false
apart n a b good ha hb differ = go (int_cmp (key_in b.place) (key_in a.place)) (int_ranked (key_in b.place) (key_in a.place) _ refl)
  where
    go : (o : Ordering) → MatchOrdering o (key_in b.place <ℤ key_in a.place) (key_in b.place ≡ key_in a.place) (key_in a.place <ℤ key_in b.place) → is_eq o ≡ false
    go Less m = refl
    go Greater m = refl
    go Equal m =
        let same : a.path ≡ b.path = key_same n a.place b.place a.path b.path good ha hb (sym m) in
        let yes : eq_by_cmp by_path a b ≡ true = sym (same_as a b) ∙ (bytes_eq-Decides a.path b.path).1 same in
        absurd (let no : true ≡ false = sym yes ∙ differ in cc)

-- ---- of the members that were seen

abbrev pub spots_of : List MemberSight → List Spot
spots_of gs = map (λ (g : MemberSight). g.spot) gs

abbrev IsApartFrom : Spot → Seen → List Member → Type 0
IsApartFrom a s ms = AllByRecursion (λ (m : Member). eq_by_cmp by_newness (record { path = a.path; place = a.place; seen = s }) m ≡ false) ms

one_apart : (n : Naming) (a : Spot) (s : Seen) (spot : Spot) (seen : Option Seen) (ms : List Member) → or_none is_format n.dated ≡ true → HasPath n a → HasPath n spot → eq_by_cmp by_path a spot ≡ false → IsApartFrom a s ms → IsApartFrom a s (seen_member spot seen ++ ms)
one_apart n a s spot None ms good ha hd differ rest = rest
one_apart n a s spot (Some seen) ms good ha hd differ rest = (apart n a spot good ha hd differ, rest)

all_apart : (n : Naming) (a : Spot) (s : Seen) (gs : List MemberSight) → or_none is_format n.dated ≡ true → HasPath n a → All (HasPath n) (spots_of gs) → AllByRecursion (λ (d : Spot). eq_by_cmp by_path a d ≡ false) (spots_of gs) → IsApartFrom a s (flat_map member_of gs)
all_apart n a s [] good ha h d = tt
all_apart n a s (g ∷ gs) good ha h d = one_apart n a s g.spot g.seen (flat_map member_of gs) good ha (All-head (HasPath n) g.spot (spots_of gs) h) d.0 (all_apart n a s gs good ha (All-tail (HasPath n) g.spot (spots_of gs) h) d.1)

one_more : (n : Naming) (spot : Spot) (seen : Option Seen) (gs : List MemberSight) → or_none is_format n.dated ≡ true → HasPath n spot → All (HasPath n) (spots_of gs) → AllByRecursion (λ (d : Spot). eq_by_cmp by_path spot d ≡ false) (spots_of gs) → IsDistinct (eq_by_cmp by_newness) (flat_map member_of gs) → IsDistinct (eq_by_cmp by_newness) (seen_member spot seen ++ flat_map member_of gs)
unfolding IsDistinct
one_more n spot None gs good ha h d rest = rest
one_more n spot (Some seen) gs good ha h d rest = (all_apart n spot seen gs good ha h d, rest)

seen_apart : (n : Naming) (gs : List MemberSight) → or_none is_format n.dated ≡ true → All (HasPath n) (spots_of gs) → IsDistinct (eq_by_cmp by_path) (spots_of gs) → IsDistinct (eq_by_cmp by_newness) (flat_map member_of gs)
unfolding IsDistinct
seen_apart n [] good h d = tt
seen_apart n (g ∷ gs) good h d = one_more n g.spot g.seen gs good (All-head (HasPath n) g.spot (spots_of gs) h) (All-tail (HasPath n) g.spot (spots_of gs) h) d.0 (seen_apart n gs good (All-tail (HasPath n) g.spot (spots_of gs) h) d.1)

pub members_apart : (n : Naming) (names : List (List ℕ)) (spots : List Spot) (members : List Member) → or_none is_format n.dated ≡ true → AreSpots n names spots → AreSeen spots members → HaveOwnPlaces members
members_apart n names spots members good are s = subst (IsDistinct (eq_by_cmp by_newness)) (sym s.members_are)
    (seen_apart n s.sights good (subst (All (HasPath n)) (sym s.each) are.has.places) (subst (IsDistinct (eq_by_cmp by_path)) (sym s.each) (IsDistinct-from_sorted by_path spots are.rising)))

pub none_apart : (members : List Member) → members ≡ [] → AreNewestFirst members
unfolding IsStrictlySortedBy
none_apart [] e = tt
none_apart (m ∷ ms) e = absurd (cc)

-- ---- of numbers

-- the greater key is that of the newer
pub key_below : (a b : ℤ) → int_cmp b a ≡ Less → b <ℤ a
key_below a b e = go (int_cmp b a) (int_ranked b a _ refl) e
  where
    go : (o : Ordering) → MatchOrdering o (b <ℤ a) (b ≡ a) (a <ℤ b) → o ≡ Less → b <ℤ a
    go Less m e = m
    go Equal m e = absurd (cc)
    go Greater m e = absurd (cc)

lower : (p q : ℕ) → stamp_key (neg_ℤ (pos q)) 0 <ℤ stamp_key (neg_ℤ (pos p)) 0 → p < q
lower p q lt = omega (arith, ints, lt)

number_below : (n : Naming) (a b : Place) (x y : Path) → n.dated ≡ None → IsPlaceOf n a x → IsPlaceOf n b y → int_cmp (key_in b) (key_in a) ≡ Less → nat_cmp (number_in a) (number_in b) ≡ Less
number_below n (at.Number p) (at.Number q) x y numbered hx hy e = sym (nat_cmp_is p q Less (lower p q (key_below (key_in (at.Number p)) (key_in (at.Number q)) e)))
number_below n (at.Number p) (at.Stamp u l) x y numbered hx hy e = absurd (no_format n.dated numbered hy.dated)
number_below n (at.Stamp t k) b x y numbered hx hy e = absurd (no_format n.dated numbered hx.dated)

numbers_below : (n : Naming) (m : Member) (ms : List Member) → n.dated ≡ None → IsPlaceOf n m.place m.path → AreNamed n ms → AllByRecursion (λ (y : Member). by_newness m y ≡ Less) ms → AllByRecursion (λ (j : ℕ). nat_cmp (number_in m.place) j ≡ Less) (map (λ (m : Member). number_in m.place) ms)
numbers_below n m [] numbered is named a = tt
numbers_below n m (y ∷ ys) numbered is named a = (
  number_below n m.place y.place m.path y.path numbered is (All-head (λ (m : Member). IsPlaceOf n m.place m.path) y ys named) a.0,
  numbers_below n m ys numbered is (All-tail (λ (m : Member). IsPlaceOf n m.place m.path) y ys named) a.1,
)

numbers_sorted : (n : Naming) (ms : List Member) → n.dated ≡ None → AreNamed n ms → AreNewestFirst ms → IsStrictlySortedBy nat_cmp (map (λ (m : Member). number_in m.place) ms)
unfolding IsStrictlySortedBy
numbers_sorted n [] numbered named up = tt
numbers_sorted n (m ∷ ms) numbered named up = (
  numbers_below n m ms numbered (All-head (λ (m : Member). IsPlaceOf n m.place m.path) m ms named) (All-tail (λ (m : Member). IsPlaceOf n m.place m.path) m ms named) up.0,
  numbers_sorted n ms numbered (All-tail (λ (m : Member). IsPlaceOf n m.place m.path) m ms named) up.1,
)

-- the newest member has the lowest number
pub numbers_rise : (n : Naming) (ms : List Member) → n.dated ≡ None → AreNamed n ms → AreNewestFirst ms → IsStrictlyIncreasing (map (λ (m : Member). number_in m.place) ms)
numbers_rise n ms numbered named up = IsStrictlyIncreasing-from_sorted (map (λ (m : Member). number_in m.place) ms) (numbers_sorted n ms numbered named up)
