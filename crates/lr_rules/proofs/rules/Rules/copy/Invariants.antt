use Rattle.std.proofs.Common.{◌≡◌, take}
use Rattle.lr_rules.proofs.rules.Rules.copy.Given as goal

abbrev pub invariant-loop-rule : goal.invariant-loop-rule
invariant-loop-rule l = l.sets.items ≡ take l.rule-index l.rule-items
