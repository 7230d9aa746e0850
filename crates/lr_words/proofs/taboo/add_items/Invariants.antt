use Rattle.std.proofs.Common.{◌≡◌, ◌++◌, map, filter}
use Rattle.lr_words.specs.Lists.{is_item}
use Rattle.lr_words.proofs.taboo.add_items.Given as goal

abbrev pub invariant-loop-part : goal.invariant-loop-part
invariant-loop-part l = l.into.items ≡ l.initial.into.items ++ filter is_item (map (λ x. x.now) l.yielded)
