use Rattle.std.proofs.Common.{List, ℕ, sym, subst}
use Rattle.std.specs.List.Sorted.{IsPermutation}
use Rattle.lr_host.proofs.Sorting.{listed_rising}
use Rattle.lr_host.proofs.listing.list_rising.Goals as goal

pub returns-in-Ok-clause-told : goal.returns-in-Ok-clause-told
returns-in-Ok-clause-told g c = listed_rising c.args.dir.now c.new-names.result.items c.list.new.names.items c.from_vec.result c.new-names.ensures.items
    (subst (λ (xs : List (List ℕ)). IsPermutation c.list.new.names.items xs) (sym c.from_vec.ensures) c.sort_rising.ensures.same) c.in-Ok.ensures.told
