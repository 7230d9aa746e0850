use Rattle.lr_laws_plan.proofs.Failing.{logs_met_nothing, run_met_nothing}
use Rattle.lr_laws_plan.proofs.fulfilling.run_meets_no_fault.Goals as goal

pub returns-clause-all : goal.returns-clause-all
returns-clause-all c = run_met_nothing

pub returns-clause-logs : goal.returns-clause-logs
returns-clause-logs c = logs_met_nothing
