use Rattle.std.proofs.Common.{◌≡◌, List, ap, Bor, Ordering, rules}
use Rattle.std.specs.Fn.{Called}
use Rattle.std.specs.Ordering.{is_lt}
use Rattle.std.specs.List.Sorted.{IsSorted, IsSortedByClosure}
use Rattle.std.proofs.lemmas.List.MinMax.{ranks_by}
use Rattle.std.proofs.lemmas.Fn.{always_returns_same, dedup_same}
use denote.Param.Members.{Mut}
use Rattle.lr_family.specs.declared.spot.Spot.{Spot}
use Rattle.lr_family.specs.Spots.{by_path}
use Rattle.lr_family.proofs.Rising.{is_same, total, sorted_spots}
use Rattle.lr_family.proofs.spot.sort_rising.Goals as goal

sorted : {F : Type 0} {g : Mut F (Bor Spot × (Bor Spot × Unit {0})) Ordering} {f : F} (xs : List Spot) → IsSortedByClosure g f xs
    → ((a : Bor Spot × (Bor Spot × Unit {0})) (r : Ordering) (f' : F) → Called g f a r f' → (r ≡ by_path a.0.now a.1.0.now) × (f' ≡ f)) → IsSorted by_path xs
sorted {g = g} {f = f} xs up h = up (λ x y. is_lt (by_path x y)) (ranks_by total (λ (x : Spot). x))
    (always_returns_same g (λ a r. is_lt r ≡ is_lt (by_path a.0.now a.1.0.now)) f (λ a r f' k. (ap is_lt (h a r f' k).0, (h a r f' k).1)))

pub returns : goal.returns
returns c = sorted_spots c.args.naming.now c.args.names.now c.args.spots.now.items c.sort_unstable_by.new.self.items c.dedup_by.new.self.items c.requires c.sort_unstable_by.ensures.permutation
    (sorted c.sort_unstable_by.new.self.items c.sort_unstable_by.ensures.sorted (λ a r q k. search rules)) (dedup_same _ is_same _ (λ x y b f' x' y' k. search rules) _ _ c.dedup_by.ensures.filtered)
