use Rattle.lr_laws.proofs.Revived.{revived_steady, revived_safe}
use Rattle.lr_laws.proofs.worked.revived_is_safe.Goals as goal

pub returns-clause-steady : goal.returns-clause-steady
returns-clause-steady c = revived_steady

pub returns-clause-safe : goal.returns-clause-safe
returns-clause-safe c = revived_safe
