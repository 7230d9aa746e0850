use Rattle.lr_plan.specs.Asked.{asking}
use Rattle.lr_run.proofs.Trying.{follows}
use Rattle.lr_run.proofs.dry.plan_dry.Goals as goal

pub returns-clause-follows : goal.returns-clause-follows
returns-clause-follows c = follows c.tell.result c.in_ok-small.small c.in_ok-plan.plan c.args.rules.now.sets c.args.looks.now.sets _ c.args.looks.now.kept c.args.table c.args.clock.now (asking c.args.settings.now.force c.args.settings.now.mailer) c.args.faults.now.items c.tell.new.faults.items c.in_ok-plan.ensures c.as_slice-kept.ensures c.in_ok-small.ensures c.tell.ensures.plan c.tell.ensures.faults
