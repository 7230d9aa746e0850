use Rattle.lr_laws_plan.proofs.ListsOnce.{run_looks_once, run_once}
use Rattle.lr_laws_plan.proofs.fulfilling.run_lists_once.Goals as goal

pub returns-clause-looks : goal.returns-clause-looks
returns-clause-looks c = run_looks_once

pub returns-clause-all : goal.returns-clause-all
returns-clause-all c = run_once
