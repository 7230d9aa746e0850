use Rattle.std.proofs.Common.{◌≡◌, take}
use Rattle.lr_forms.specs.Says.{texts}
use Rattle.lr_forms.proofs.taboo.texts_of.Given as goal

abbrev pub invariant-loop-word : goal.invariant-loop-word
invariant-loop-word l = l.all.items ≡ texts (take l.word-index l.words)
