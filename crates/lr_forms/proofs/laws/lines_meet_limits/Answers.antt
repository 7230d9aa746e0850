use Rattle.lr_forms.proofs.Limits.{said_fine}
use Rattle.lr_forms.proofs.Naming.{said_some}
use Rattle.lr_forms.proofs.laws.lines_meet_limits.Goals as goal

pub returns-clause-limits : goal.returns-clause-limits
returns-clause-limits c inside item = said_fine inside item

pub returns-clause-named : goal.returns-clause-named
returns-clause-named c inside item = said_some inside item
