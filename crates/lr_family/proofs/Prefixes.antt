-- Of names in order of bytes, those that begin alike stand side by side.
use Rattle.std.proofs.Common.{◌≡◌, ⊎_elim, ℕ, ◌+◌, ◌-◌, ◌<◌, ◌≤◌, nat_eq, min, Bool, true, false, List, [], ◌∷◌, ◌++◌, length, take, drop, get_or, Ordering, Less, Equal, Greater, refl, sym, ap, ◌∙◌, subst, arith}
use Rattle.std.specs.Prelude.{Contains}
use Rattle.std.specs.Ordering.{MatchOrdering, nat_cmp, is_lt, ordering_then, ordering_index}
use Rattle.std.specs.Cmp.Lexicographic.{slice_cmp}
use Rattle.std.specs.List.{starts_with}
use Rattle.std.specs.List.Sorted.{IsPartitionedBy, IsPartitionPoint}
use Rattle.std.proofs.lemmas.Bool.{cases_lt}
use Rattle.std.proofs.lemmas.Bool.Decides.{Decides-eqb}
use Rattle.std.proofs.lemmas.Cmp.{ranked, nat_list_cmp_total}
use Rattle.std.proofs.lemmas.List.{get_or-drop, get_or-take, take_all, length-drop, length-take, length-take-le}
use Rattle.std.proofs.lemmas.List.MinMax.{ranks_by}
use Rattle.std.proofs.lemmas.List.Sorted.{sorted_far, searchable_from_sorted}
use Rattle.std.proofs.lemmas.Slice.Eq.{starts_is}
use Rattle.lr_host.specs.Listing.{NamesRise}

abbrev pub before : List ℕ → List ℕ → Bool
before base name = is_lt (slice_cmp nat_cmp name base)

abbrev pub begins : List ℕ → List ℕ → Bool
begins base name = starts_with nat_eq name base

begun_of : (base name : List ℕ) → begins base name ≡ true → name ≡ base ++ drop (length base) name
begun_of base name e = (starts_is Decides-eqb name base (begins base name) refl).0 e

begins_so : (base name rest : List ℕ) → name ≡ base ++ rest → begins base name ≡ true
begins_so base name rest e = (starts_is Decides-eqb name base (begins base name) refl).1 rest e

-- ---- what begins with the base isn't before it

pub same_number : (b : ℕ) → nat_cmp b b ≡ Equal
same_number b = go (nat_cmp b b) (ranked b b (nat_cmp b b) refl)
  where
    go : (o : Ordering) → MatchOrdering o (b < b) (b ≡ b) (b < b) → o ≡ Equal
    go Less m = absurd (let lt : b < b = m in omega arith)
    go Equal m = refl
    go Greater m = absurd (let lt : b < b = m in omega arith)

not_before : (base rest : List ℕ) → before base (base ++ rest) ≡ false
not_before [] [] = refl
not_before [] (x ∷ rest) = refl
not_before (b ∷ base) rest = ap (λ o. is_lt (ordering_then o (slice_cmp nat_cmp (base ++ rest) base))) (same_number b) ∙ not_before base rest

-- the first bytes of two lists that stand between each other's are the same
heads : (b c : ℕ) (o p : Ordering) → is_lt (ordering_then (nat_cmp c b) o) ≡ false → is_lt (ordering_then (nat_cmp b c) p) ≡ false → (b ≡ c) × (is_lt o ≡ false) × (is_lt p ≡ false)
heads b c o p = go (nat_cmp c b) (nat_cmp b c) (ranked c b (nat_cmp c b) refl) (ranked b c (nat_cmp b c) refl)
  where
    go : (x y : Ordering) → MatchOrdering x (c < b) (c ≡ b) (b < c) → MatchOrdering y (b < c) (b ≡ c) (c < b) → is_lt (ordering_then x o) ≡ false → is_lt (ordering_then y p) ≡ false → (b ≡ c) × (is_lt o ≡ false) × (is_lt p ≡ false)
    go Less y m n e f = absurd (cc)
    go Equal Less m n e f = absurd (cc)
    go Equal Equal m n e f = (n, e, f)
    go Equal Greater m n e f = absurd (let same : c ≡ b = m in let lt : c < b = n in omega arith)
    go Greater Less m n e f = absurd (cc)
    go Greater Equal m n e f = absurd (let lt : b < c = m in let same : b ≡ c = n in omega arith)
    go Greater Greater m n e f = absurd (let lt : b < c = m in let gt : c < b = n in omega arith)

-- what stands between a base and a name that begins with it begins with it too
between : (base name rest : List ℕ) → is_lt (slice_cmp nat_cmp name base) ≡ false → is_lt (slice_cmp nat_cmp (base ++ rest) name) ≡ false → (more : List ℕ) × (name ≡ base ++ more)
between [] name rest p q = (name, refl)
between (b ∷ base) [] rest p q = absurd (cc)
between (b ∷ base) (c ∷ name) rest p q =
    let h = heads b c (slice_cmp nat_cmp name base) (slice_cmp nat_cmp (base ++ rest) name) p q in
    let r = between base name rest h.1 h.2 in
    (r.0, ap (λ d. d ∷ name) (sym h.0) ∙ ap (λ xs. b ∷ xs) r.1)

-- ---- halving

lower : (o p : Ordering) → ordering_index o ≤ ordering_index p → is_lt p ≡ true → is_lt o ≡ true
lower Less p le e = refl
lower Equal Less le e = absurd (let no : 1 ≤ 0 = le in omega arith)
lower Equal Equal le e = absurd (cc)
lower Equal Greater le e = absurd (cc)
lower Greater Less le e = absurd (let no : 2 ≤ 0 = le in omega arith)
lower Greater Equal le e = absurd (cc)
lower Greater Greater le e = absurd (cc)

pub before_first : (base : List ℕ) (names : List (List ℕ)) → NamesRise names → IsPartitionedBy (before base) names
before_first base names up i j d le lt e = lower (slice_cmp nat_cmp (get_or names i d) base) (slice_cmp nat_cmp (get_or names j d) base) (searchable_from_sorted nat_list_cmp_total (λ (x : List ℕ). x) names base up i j d le lt) e

-- behind the names that are before the base
abbrev pub StartsAt : List ℕ → List (List ℕ) → ℕ → Type 0
StartsAt base names i = IsPartitionPoint (λ y. before base y ≡ true) (λ y. before base y ≡ false) names i

pub begun_first : (base : List ℕ) (names : List (List ℕ)) (i : ℕ) → NamesRise names → StartsAt base names i → i ≤ length names → IsPartitionedBy (begins base) (drop i names)
begun_first base names i up start fits a b d le lt e =
    let size : length (drop i names) ≡ length names - i = length-drop i names in
    let bound : b < length (drop i names) = lt in
    let order : a ≤ b = le in
    let small : i ≤ length names = fits in
    let here = get_or-drop i names a d in
    let there = get_or-drop i names b d in
    let from : before base (get_or names (i + a) d) ≡ false = start.1 (i + a) d (omega arith) (omega arith) in
    let upto : is_lt (slice_cmp nat_cmp (get_or names (i + b) d) (get_or names (i + a) d)) ≡ false = sorted_far (λ x y. is_lt (slice_cmp nat_cmp x y)) (ranks_by nat_list_cmp_total (λ (x : List ℕ). x)) names up (i + a) (i + b) d (omega arith) (omega arith) in
    let text = begun_of base (get_or names (i + b) d) (subst (λ (x : List ℕ). begins base x ≡ true) there e) in
    let r = between base (get_or names (i + a) d) (drop (length base) (get_or names (i + b) d)) from (subst (λ (x : List ℕ). is_lt (slice_cmp nat_cmp x (get_or names (i + a) d)) ≡ false) text upto) in
    begins_so base (get_or (drop i names) a d) r.0 (here ∙ r.1)

abbrev pub EndsAt : List ℕ → List (List ℕ) → ℕ → Type 0
EndsAt base names i = IsPartitionPoint (λ y. begins base y ≡ true) (λ y. begins base y ≡ false) names i

-- the slice from i on
pub rest_is : (names : List (List ℕ)) (i : ℕ) → take (length names - i) (drop i names) ≡ drop i names
rest_is names i = take_all (length names - i) (drop i names) (let size : length (drop i names) ≡ length names - i = length-drop i names in omega arith)

pub part_has : (base : List ℕ) (names : List (List ℕ)) (i j : ℕ) (rest : List ℕ) → StartsAt base names i → EndsAt base (drop i names) j → j ≤ length (drop i names) → Contains names (base ++ rest) → Contains (take j (drop i names)) (base ++ rest)
part_has base names i j rest start end fits c = ⊎_elim early late (cases_lt c.0 i)
  where
    x : List ℕ
    x = base ++ rest

    early : c.0 < i → Contains (take j (drop i names)) x
    early lt = absurd (let yes : before base (get_or names c.0 x) ≡ true = start.0 c.0 x (omega arith) lt in let no : before base x ≡ false = not_before base rest in let same : get_or names c.0 x ≡ x = c.2 in let again : before base x ≡ true = subst (λ (y : List ℕ). before base y ≡ true) same yes in cc)

    late : i ≤ c.0 → Contains (take j (drop i names)) x
    late le = ⊎_elim inside outside (cases_lt (c.0 - i) j)
      where
        back : i + (c.0 - i) ≡ c.0
        back = let from : i ≤ c.0 = le in omega arith

        at : get_or (drop i names) (c.0 - i) x ≡ x
        at = get_or-drop i names (c.0 - i) x ∙ (ap (λ k. get_or names k x) back ∙ c.2)

        inside : c.0 - i < j → Contains (take j (drop i names)) x
        inside lt = (c.0 - i, (let size : length (take j (drop i names)) ≡ j = length-take-le j (drop i names) fits in let bound : c.0 - i < j = lt in omega arith), get_or-take j (drop i names) (c.0 - i) x lt ∙ at)

        outside : j ≤ c.0 - i → Contains (take j (drop i names)) x
        outside ge = absurd (
            let size : length (drop i names) ≡ length names - i = length-drop i names in
            let bound : c.0 < length names = c.1 in
            let from : i ≤ c.0 = le in
            let no : begins base (get_or (drop i names) (c.0 - i) x) ≡ false = end.1 (c.0 - i) x ge (omega arith) in
            let yes : begins base x ≡ true = begins_so base x rest refl in
            let again : begins base x ≡ false = subst (λ (y : List ℕ). begins base y ≡ false) at no in
            cc
            )

pub part_begins : (base : List ℕ) (names : List (List ℕ)) (j : ℕ) → EndsAt base names j → j ≤ length names → (k : ℕ) (d : List ℕ) → k < length (take j names) → begins base (get_or (take j names) k d) ≡ true
part_begins base names j end fits k d lt =
    let size : length (take j names) ≡ j = length-take-le j names fits in
    let bound : k < length (take j names) = lt in
    subst (λ (y : List ℕ). begins base y ≡ true) (sym (get_or-take j names k d (omega arith))) (end.0 k d (omega arith) (omega arith))

-- a part of names that rise rises
pub part_rises : (names : List (List ℕ)) (i j : ℕ) → NamesRise names → NamesRise (take j (drop i names))
part_rises names i j up k d le lt = subst (λ (x : List ℕ). is_lt (slice_cmp nat_cmp x (get_or (take j (drop i names)) k d)) ≡ false) (sym (at (k + 1) lt))
    (subst (λ (x : List ℕ). is_lt (slice_cmp nat_cmp (get_or names (i + (k + 1)) d) x) ≡ false) (sym (at k (omega arith))) (subst (λ (m : ℕ). is_lt (slice_cmp nat_cmp (get_or names m d) (get_or names (i + k) d)) ≡ false) next (up (i + k) d (omega arith) inside)))
  where
    size : length (take j (drop i names)) ≡ min j (length names - i)
    size = length-take j (drop i names) ∙ ap (λ m. min j m) (length-drop i names)

    next : i + k + 1 ≡ i + (k + 1)
    next = omega arith

    inside : i + k + 1 < length names
    inside = omega (arith, size, lt)

    at : (m : ℕ) → m < length (take j (drop i names)) → get_or (take j (drop i names)) m d ≡ get_or names (i + m) d
    at m in_part = get_or-take j (drop i names) m d (omega (arith, size, in_part)) ∙ get_or-drop i names m d
