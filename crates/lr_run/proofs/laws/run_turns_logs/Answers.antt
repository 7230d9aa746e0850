use Rattle.lr_run.proofs.Turned.{logs_turned}
use Rattle.lr_run.proofs.laws.run_turns_logs.Goals as goal

pub returns : goal.returns
returns c = logs_turned
