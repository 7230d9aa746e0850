use Rattle.lr_laws.proofs.Walk.{walked}
use Rattle.lr_laws.proofs.Calls.{took}
use Rattle.lr_laws.proofs.safety.rotation_stays_safe.Goals as goal

pub returns-clause-entries : goal.returns-clause-entries
returns-clause-entries c = walked

pub returns-clause-calls : goal.returns-clause-calls
returns-clause-calls c = took
