use Rattle.std.proofs.Common.{◌≡◌, take, flat_map}
use Rattle.lr_words.specs.Lists.{items_in}
use Rattle.lr_words.proofs.taboo.all_items.Given as goal

abbrev pub invariant-loop-word : goal.invariant-loop-word
invariant-loop-word l = l.items.items ≡ flat_map items_in (take l.word-index l.words)
