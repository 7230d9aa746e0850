use Rattle.lr_laws_plan.proofs.Truth.{run_looks_true}
use Rattle.lr_laws_plan.proofs.fulfilling.run_looks_are_true.Goals as goal

pub returns : goal.returns
returns c = run_looks_true
