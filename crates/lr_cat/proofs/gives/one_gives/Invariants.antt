use Rattle.lr_rules.specs.Match.{WordGives}
use Rattle.lr_cat.proofs.Giving.{NoneTo}
use Rattle.lr_cat.proofs.gives.one_gives.Given as goal

abbrev pub invariant-loop-word : goal.invariant-loop-word
invariant-loop-word l = NoneTo (λ word. WordGives word l.path) l.words l.word-index
