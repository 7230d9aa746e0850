use Rattle.std.proofs.Common.{List, subst}
use Rattle.std.specs.List.Sorted.{IsPermutation}
use Rattle.lr_rules.specs.declared.path.Path.{Path}
use Rattle.lr_glob.proofs.word.ordered.Goals as goal

pub returns : goal.returns
returns c = record {
  same = subst (λ (paths : List Path). IsPermutation paths c.put_in_order.new.paths.items) c.in_ok-whole.ensures c.put_in_order.ensures.same;
  rising = c.put_in_order.ensures.rising;
}
