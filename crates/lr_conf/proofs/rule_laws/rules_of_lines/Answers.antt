use Rattle.lr_conf.proofs.Limits.{limits}
use Rattle.lr_conf.proofs.Plain.{all_plain}
use Rattle.lr_conf.proofs.rule_laws.rules_of_lines.Goals as goal

pub returns-clause-limits : goal.returns-clause-limits
returns-clause-limits c lines = limits lines

pub returns-clause-plain : goal.returns-clause-plain
returns-clause-plain c lines = all_plain lines
