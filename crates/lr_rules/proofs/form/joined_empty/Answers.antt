use Rattle.std.proofs.Common.{rules, ◌∙◌}
use Rattle.lr_rules.proofs.Joined.{empty_at_end, empty_in_name}
use Rattle.lr_rules.proofs.form.joined_empty.Goals as goal

pub returns-then-is_empty : goal.returns-then-is_empty
returns-then-is_empty c = empty_at_end c.args.dir.now c.args.last.now c.requires (search rules)

pub returns : goal.returns
returns c = c.any_empty.ensures ∙ empty_in_name c.args.dir.now c.args.last.now c.requires (search rules)
