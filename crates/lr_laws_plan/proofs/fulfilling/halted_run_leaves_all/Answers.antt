use Rattle.lr_laws_plan.proofs.Halted.{paths_alone, sets_alone}
use Rattle.lr_laws_plan.proofs.fulfilling.halted_run_leaves_all.Goals as goal

pub returns-clause-paths : goal.returns-clause-paths
returns-clause-paths c = paths_alone

pub returns-clause-sets : goal.returns-clause-sets
returns-clause-sets c = sets_alone
