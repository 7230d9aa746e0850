use Rattle.std.proofs.Common.{◌≡◌, ◌++◌, take}
use Rattle.lr_match.proofs.lists.add_texts.Given as goal

abbrev pub invariant-loop-text : goal.invariant-loop-text
invariant-loop-text l = l.into.items ≡ l.fn.into.items ++ take l.text-index l.texts
