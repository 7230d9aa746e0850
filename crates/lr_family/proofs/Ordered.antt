-- Lists that rise strictly are fixed by what they have.
use Rattle.std.proofs.Common.{◌≡◌, ℕ, Bool, true, List, Ordering, BTreeSet}
use Rattle.std.specs.Prelude.{Contains, Any}
use Rattle.std.specs.BTreeMap.{is_at}
use Rattle.std.specs.Cmp.{IsTotalOrder}
use Rattle.std.specs.List.{list_any}
use Rattle.std.specs.List.Sorted.{IsStrictlySortedBy}
use Rattle.std.proofs.lemmas.List.Folds.{Any-from_list_any, list_any-from_Any}
use Rattle.std.proofs.lemmas.Map.Lookups.{CmpEqualImpliesEq, btree_set_from_contains}
use Rattle.lr_rules.specs.declared.path.Path.{Path}
use Rattle.lr_rules.specs.declared.rule.Naming.{Naming}
use Rattle.lr_rules.proofs.Bools.{same_bools}
use Rattle.lr_family.specs.Parts.{IsPartAmong}

any_same : {K : Type 0} (p : K → Bool) (xs ys : List K) → ((x : K) → Contains xs x → Contains ys x) → list_any p xs ≡ true → list_any p ys ≡ true
any_same p xs ys f e = go (Any-from_list_any p xs e)
  where
    go : Any (λ x. p x ≡ true) xs → list_any p ys ≡ true
    go a = let c = f a.1 (a.0, a.2, a.3) in list_any-from_Any p ys (c.0, a.1, c.1, c.2, a.4)

pub same_rising : {K : Type 0} {R : K → K → Ordering} → IsTotalOrder R → CmpEqualImpliesEq R → (xs ys : List K) → IsStrictlySortedBy R xs → IsStrictlySortedBy R ys → ((x : K) → Contains xs x → Contains ys x) → ((x : K) → Contains ys x → Contains xs x) → xs ≡ ys
same_rising {K} {R} total exact xs ys up vp f g = btree_set_from_contains total (set_of xs) (set_of ys) up vp (λ q. same_bools (list_any (is_at (R q)) xs) (list_any (is_at (R q)) ys) (any_same (is_at (R q)) xs ys f) (any_same (is_at (R q)) ys xs g)) exact
  where
    set_of : List K → BTreeSet K
    set_of ks = record { keys = ks }

-- the names of the one are names of the other
abbrev pub AreAmong : List (List ℕ) → List (List ℕ) → Type 0
AreAmong names more = (name : List ℕ) → Contains names name → Contains more name

pub part_more : (n : Naming) (names more : List (List ℕ)) (x : Path) → AreAmong names more → IsPartAmong n names x → IsPartAmong n more x
part_more n names more x f p = record { part = p.part; name = p.name; listed = f p.name p.listed; named = p.named }
