use Rattle.lr_laws_plan.proofs.Given.{logs_given}
use Rattle.lr_laws_plan.proofs.fulfilling.logs_are_given.Goals as goal

pub returns : goal.returns
returns c = logs_given
