use Rattle.std.proofs.Common.{◌≡◌, List, ap, Bor, Ordering, rules}
use Rattle.std.specs.Fn.{Called}
use Rattle.std.specs.Ordering.{nat_cmp, is_lt}
use Rattle.std.specs.Cmp.Lexicographic.{slice_cmp}
use Rattle.std.specs.List.Sorted.{IsSortedByClosure}
use Rattle.std.proofs.lemmas.List.MinMax.{ranks_by}
use Rattle.std.proofs.lemmas.Cmp.{nat_list_cmp_total}
use Rattle.std.proofs.lemmas.Fn.{always_returns_same}
use denote.Param.Members.{Mut}
use Rattle.lr_kept.specs.declared.front.Front.{Front}
use Rattle.lr_kept.specs.Fronts.{AreInOrder}
use Rattle.lr_kept.proofs.fronts.sort_fronts.Goals as goal

sorted : {F : Type 0} {g : Mut F (Bor Front × (Bor Front × Unit {0})) Ordering} {f : F} (xs : List Front) → IsSortedByClosure g f xs
    → ((a : Bor Front × (Bor Front × Unit {0})) (r : Ordering) (f' : F) → Called g f a r f' → (r ≡ slice_cmp nat_cmp a.0.now.bytes a.1.0.now.bytes) × (f' ≡ f)) → AreInOrder xs
sorted {g = g} {f = f} xs up h = up (λ x y. is_lt (slice_cmp nat_cmp x.bytes y.bytes)) (ranks_by nat_list_cmp_total (λ (x : Front). x.bytes))
    (always_returns_same g (λ a r. is_lt r ≡ is_lt (slice_cmp nat_cmp a.0.now.bytes a.1.0.now.bytes)) f (λ a r f' k. (ap is_lt (h a r f' k).0, (h a r f' k).1)))

pub returns-clause-order : goal.returns-clause-order
returns-clause-order c = sorted c.sort_unstable_by.new.self.items c.sort_unstable_by.ensures.sorted (λ a r q k. search rules)
