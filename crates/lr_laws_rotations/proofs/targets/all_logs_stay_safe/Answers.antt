use Rattle.lr_laws_rotations.proofs.RunSafety.{all_safe, all_safe_aside}
use Rattle.lr_laws_rotations.proofs.DatedExample.{dated_turns}
use Rattle.lr_laws_rotations.proofs.targets.all_logs_stay_safe.Goals as goal

pub returns-clause-renamed : goal.returns-clause-renamed
returns-clause-renamed c = all_safe

pub returns-clause-aside : goal.returns-clause-aside
returns-clause-aside c = all_safe_aside

pub returns-clause-dated_log_turns : goal.returns-clause-dated_log_turns
returns-clause-dated_log_turns c = dated_turns
