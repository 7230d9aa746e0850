use Rattle.lr_rules.proofs.Joined.{fault_no_text}
use Rattle.lr_rules.proofs.path.Path.join.Goals as goal

pub returns-in_default : goal.returns-in_default
returns-in_default c = fault_no_text c.args.self.now c.args.last.now c.bytes-dir.ensures.path c.in_default.ensures.cases.0
