use Rattle.lr_rules.specs.Match.{RuleGives}
use Rattle.lr_cat.proofs.Giving.{NoneTo}
use Rattle.lr_cat.proofs.gives.family_by.Given as goal

abbrev pub invariant-loop-rule : goal.invariant-loop-rule
invariant-loop-rule l = NoneTo (λ rule. RuleGives rule l.log) l.rules l.rule-index
