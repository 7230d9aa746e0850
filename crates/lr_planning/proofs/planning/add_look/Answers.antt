use Rattle.std.proofs.Common.{rules}
use Rattle.lr_planning.proofs.planning.add_look.Goals as goal

pub returns-in-No-clause-plans : goal.returns-in-No-clause-plans
returns-in-No-clause-plans c = search rules

pub returns-in-No-clause-faults : goal.returns-in-No-clause-faults
returns-in-No-clause-faults c = search rules
