use Rattle.std.proofs.Common.{rules}
use Rattle.lr_host.proofs.Sorting.{sorted}
use Rattle.lr_host.proofs.ordered.put_in_order.Goals as goal

pub returns-clause-rising : goal.returns-clause-rising
returns-clause-rising c = sorted c.sort_unstable_by.new.self.items c.sort_unstable_by.ensures.sorted (λ a r q k. search rules)
