-- Members, each once, in order of bytes.
use Rattle.std.proofs.Common.{◌≡◌, ℕ, Bool, true, Less, List, [], ◌∷◌, length, map, bytes_eq, sym, ap, ◌∙◌, subst}
use Rattle.std.specs.Prelude.{All, Contains, Any}
use Rattle.std.specs.Ordering.{eq_by_cmp}
use Rattle.std.specs.List.{dedup, AllByRecursion}
use Rattle.std.specs.List.Sorted.{IsPermutation, IsSorted, IsStrictlySortedBy}
use Rattle.std.specs.Cmp.{IsTotalOrder, IsEquivalence}
use Rattle.std.proofs.lemmas.Cmp.{nat_list_cmp_total, on_total, eq_by_cmp_equiv}
use Rattle.std.proofs.lemmas.List.{length-map}
use Rattle.std.proofs.lemmas.List.Filters.{All-dedup}
use Rattle.std.proofs.lemmas.List.Kept.{IsStrictlySortedBy-dedup, Contains-from_dedup, Any-dedup}
use Rattle.std.proofs.lemmas.List.Sorted.{All-permutation, Contains-permutation, IsPermutation-sym}
use Rattle.std.proofs.lemmas.Map.Lookups.{exact_bytes}
use Rattle.std.proofs.lemmas.Map.Text.{is_eq-slice_cmp}
use Rattle.std.proofs.lemmas.Slice.Eq.{bytes_eq-Decides}
use Rattle.lr_rules.specs.declared.path.Path.{Path}
use Rattle.lr_rules.specs.declared.rule.Naming.{Naming}
use Rattle.lr_host.specs.Lists.{IsIn}
use Rattle.lr_host.proofs.Lists.{in_from, in_to, in_map, in_unmap}
use Rattle.lr_family.specs.declared.spot.Spot.{Spot}
use Rattle.lr_family.specs.Parts.{by_bytes}
use Rattle.lr_family.specs.Spots.{IsListed, HasPath, IsAmong, HasSpots, AreSpots, by_path}
use Rattle.lr_family.proofs.Ordered.{AreAmong, same_rising}
use Rattle.lr_family.specs.Stands.{AreNewestFirst}

-- the same path
abbrev pub is_same : Spot → Spot → Bool
is_same a b = bytes_eq a.path b.path

pub same_as : (a b : Spot) → is_same a b ≡ eq_by_cmp by_path a b
same_as a b = sym (is_eq-slice_cmp a.path b.path)

pub total : IsTotalOrder by_path
total = on_total (λ (d : Spot). d.path) nat_list_cmp_total

equivalence : IsEquivalence is_same
equivalence = let e = eq_by_cmp_equiv total in record {
  refl = λ x. same_as x x ∙ e.refl x;
  symm = λ x y. same_as x y ∙ (e.symm x y ∙ sym (same_as y x));
  congr = λ x y z p. same_as x z ∙ (e.congr x y z (sym (same_as x y) ∙ p) ∙ sym (same_as y z));
}

pub sorted_spots : (n : Naming) (names : List (List ℕ)) (old sorted new : List Spot) → HasSpots n names old → IsPermutation old sorted → IsSorted by_path sorted → new ≡ dedup is_same sorted → AreSpots n names new
sorted_spots n names old sorted new h p up e = record {
  has = record {
    places = subst (All (HasPath n)) (sym e) (All-dedup is_same (HasPath n) sorted (All-permutation (HasPath n) old sorted p h.places));
    all = λ x. (to x, from x);
  };
  rising = subst (IsStrictlySortedBy by_path) (sym e) (IsStrictlySortedBy-dedup total same_as sorted up);
}
  where
    to : (x : Path) → IsAmong new x → IsListed n names x
    to x a = (h.all x).0 (a.0, Contains-permutation sorted old a.0 (IsPermutation-sym old sorted p) (Contains-from_dedup is_same sorted a.0 (subst (λ (ss : List Spot). Contains ss a.0) e a.1)), a.2)

    from : (x : Path) → IsListed n names x → IsAmong new x
    from x l = go ((h.all x).1 l)
      where
        go : IsAmong old x → IsAmong new x
        go a = some (Any-dedup equivalence sorted a.0 (Contains-permutation old sorted a.0 p a.1))
          where
            some : Any (λ (y : Spot). is_same a.0 y ≡ true) (dedup is_same sorted) → IsAmong new x
            some b = (b.1, subst (λ (ss : List Spot). Contains ss b.1) (sym e) (b.0, b.2, b.3), sym ((bytes_eq-Decides a.0.path b.1.path).0 b.4) ∙ a.2)

-- ---- their paths

each_path : (d : Spot) (ss : List Spot) → AllByRecursion (λ (y : Spot). by_path d y ≡ Less) ss → AllByRecursion (λ (y : Path). by_bytes d.path y ≡ Less) (map (λ (d : Spot). d.path) ss)
each_path d [] a = tt
each_path d (y ∷ ys) a = (a.0, each_path d ys a.1)

pub paths_rise : (spots : List Spot) → IsStrictlySortedBy by_path spots → IsStrictlySortedBy by_bytes (map (λ (d : Spot). d.path) spots)
unfolding IsStrictlySortedBy
paths_rise [] h = tt
paths_rise (d ∷ ss) h = (each_path d ss h.0, paths_rise ss h.1)

-- ---- members among the same names

listed_more : (n : Naming) (names more : List (List ℕ)) (x : Path) → AreAmong names more → IsListed n names x → IsListed n more x
listed_more n names more x f l = record { member = l.member; name = l.name; listed = f l.name l.listed; named = l.named }

-- in another order
pub spots_more : (n : Naming) (names more : List (List ℕ)) (spots : List Spot) → AreAmong names more → AreAmong more names → AreSpots n names spots → AreSpots n more spots
spots_more n names more spots f g are = record {
  has = record { places = are.has.places; all = λ x. (λ a. listed_more n names more x f ((are.has.all x).0 a), λ l. (are.has.all x).1 (listed_more n more names x g l)) };
  rising = are.rising;
}

to_path : (spots : List Spot) (x : Path) → IsAmong spots x → Contains (map (λ (d : Spot). d.path) spots) x
to_path spots x a = in_to x (map (λ (d : Spot). d.path) spots) (subst (λ (y : Path). IsIn y (map (λ (d : Spot). d.path) spots)) a.2 (in_map (λ (d : Spot). d.path) a.0 spots (in_from a.0 spots a.1)))

from_path : (spots : List Spot) (x : Path) → Contains (map (λ (d : Spot). d.path) spots) x → IsAmong spots x
from_path spots x c = let r = in_unmap (λ (d : Spot). d.path) x spots (in_from x (map (λ (d : Spot). d.path) spots) c) in (r.0, in_to r.0 spots r.1, r.2)

-- they have the same paths
same_paths : (n : Naming) (names : List (List ℕ)) (spots others : List Spot) → AreSpots n names spots → AreSpots n names others → map (λ (d : Spot). d.path) spots ≡ map (λ (d : Spot). d.path) others
same_paths n names spots others are be = same_rising {R = by_bytes} nat_list_cmp_total exact_bytes (map (λ (d : Spot). d.path) spots) (map (λ (d : Spot). d.path) others) (paths_rise spots are.rising) (paths_rise others be.rising)
    (λ x c. to_path others x ((be.has.all x).1 ((are.has.all x).0 (from_path spots x c)))) (λ x c. to_path spots x ((are.has.all x).1 ((be.has.all x).0 (from_path others x c))))

-- and are as many
pub as_many_spots : (n : Naming) (names : List (List ℕ)) (spots others : List Spot) → AreSpots n names spots → AreSpots n names others → length spots ≡ length others
as_many_spots n names spots others are be = sym (length-map spots (λ (d : Spot). d.path)) ∙ (ap length (same_paths n names spots others are be) ∙ length-map others (λ (d : Spot). d.path))

pub none_fall : AreNewestFirst []
unfolding IsStrictlySortedBy
none_fall = tt
