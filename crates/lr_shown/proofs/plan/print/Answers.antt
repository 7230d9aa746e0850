use Rattle.lr_shown.proofs.plan.print.Goals as goal

pub returns-clause-cause : goal.returns-clause-cause
returns-clause-cause g c = c.put_plan.ensures.cause
