use Rattle.std.proofs.Common.{rules}
use Rattle.lr_cat.proofs.Giving.{found_at, limits_at}
use Rattle.lr_cat.proofs.gives.family_by.Goals as goal

pub family_of-requires-clause-rule : goal.family_of-requires-clause-rule
family_of-requires-clause-rule c = limits_at c.args.rules.now c.loop-rule.rule-index c.rule-item.result c.requires.limits c.loop-rule-test.true c.rule-item.is

pub returns-then-branch : goal.returns-then-branch
returns-then-branch c = found_at c.args.rules.now c.args.log.now c.loop-rule.rule-index c.rule-item.result c.in_ok-family.family c.loop-rule-test.true c.rule-item.is c.loop-rule.invariant (search rules) c.in_ok-family.ensures.log c.in_ok-family.ensures.naming c.in_ok-family.ensures.is_family
