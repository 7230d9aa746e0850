use Rattle.lr_laws.specs.Forward.{IsForwardFor}
use Rattle.lr_laws.proofs.DatedWalk.{dated_walked, still_open, dated_retired}
use Rattle.lr_laws.proofs.DatedCalls.{dated_took, safe_where}
use Rattle.lr_laws.proofs.DatedKeys.{dated_set_exists}
use Rattle.lr_laws.proofs.dated_safety.dated_rotation_stays_safe.Goals as goal

pub returns-clause-safe : goal.returns-clause-safe
returns-clause-safe c = dated_walked

pub returns-clause-stays_open : goal.returns-clause-stays_open
returns-clause-stays_open c = still_open

pub returns-clause-retirement : goal.returns-clause-retirement
returns-clause-retirement c = dated_retired

pub returns-clause-calls : goal.returns-clause-calls
returns-clause-calls c = dated_took

pub returns-clause-without_clock : goal.returns-clause-without_clock
returns-clause-without_clock c = λ clock o n. safe_where (IsForwardFor clock) o n

pub returns-clause-sets_exist : goal.returns-clause-sets_exist
returns-clause-sets_exist c = dated_set_exists
