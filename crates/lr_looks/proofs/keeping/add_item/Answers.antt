use Rattle.std.proofs.Common.{rules}
use Rattle.lr_looks.proofs.keeping.add_item.Goals as goal

pub returns-in-Meets-clause-left : goal.returns-in-Meets-clause-left
returns-in-Meets-clause-left c = search rules

pub returns-in-Meets-clause-faults : goal.returns-in-Meets-clause-faults
returns-in-Meets-clause-faults c = search rules
