use Rattle.lr_laws_plan.proofs.Run.{run_fails_nothing}
use Rattle.lr_laws_plan.proofs.sparing.smooth_run_fails_nothing.Goals as goal

pub returns : goal.returns
returns c = run_fails_nothing
