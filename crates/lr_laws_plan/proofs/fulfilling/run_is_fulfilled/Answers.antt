use Rattle.lr_laws_plan.proofs.Fulfilled.{fulfilled}
use Rattle.lr_laws_plan.proofs.fulfilling.run_is_fulfilled.Goals as goal

pub returns : goal.returns
returns c = fulfilled
