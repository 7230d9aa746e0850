use Rattle.std.proofs.Common.{◌≡◌, List, ap, Bor, Ordering, rules}
use Rattle.std.specs.Fn.{Called}
use Rattle.std.specs.Ordering.{is_lt}
use Rattle.std.specs.List.Sorted.{IsSorted, IsSortedByClosure}
use Rattle.std.proofs.lemmas.List.MinMax.{ranks_by}
use Rattle.std.proofs.lemmas.Fn.{always_returns_same}
use denote.Param.Members.{Mut}
use Rattle.lr_family.specs.declared.stand.Member.{Member}
use Rattle.lr_family.specs.Stands.{by_newness}
use Rattle.lr_family.proofs.Newness.{by_newness_total, newest}
use Rattle.lr_family.proofs.newest.sort_newest.Goals as goal

sorted : {F : Type 0} {g : Mut F (Bor Member × (Bor Member × Unit {0})) Ordering} {f : F} (xs : List Member) → IsSortedByClosure g f xs
    → ((a : Bor Member × (Bor Member × Unit {0})) (r : Ordering) (f' : F) → Called g f a r f' → (r ≡ by_newness a.0.now a.1.0.now) × (f' ≡ f)) → IsSorted by_newness xs
sorted {g = g} {f = f} xs up h = up (λ x y. is_lt (by_newness x y)) (ranks_by by_newness_total (λ (x : Member). x))
    (always_returns_same g (λ a r. is_lt r ≡ is_lt (by_newness a.0.now a.1.0.now)) f (λ a r f' k. (ap is_lt (h a r f' k).0, (h a r f' k).1)))

pub returns-clause-newest : goal.returns-clause-newest
returns-clause-newest c = newest c.args.members.now.items c.sort_unstable_by.new.self.items c.requires c.sort_unstable_by.ensures.permutation (sorted c.sort_unstable_by.new.self.items c.sort_unstable_by.ensures.sorted (λ a r q k. search rules))
