use Rattle.lr_host.proofs.Counts.{went_then}
use Rattle.lr_plan.specs.Asked.{asking}
use Rattle.lr_run.proofs.Coming.{looked_done}
use Rattle.lr_run.proofs.Works.{lacks_looks, behind_looks}
use Rattle.lr_run.proofs.work.look_and_act.Goals as goal

pub returns-in_err-looks-clause-some : goal.returns-in_err-looks-clause-some
returns-in_err-looks-clause-some g c = lacks_looks c.from_residual.result c.args.settings.now.state c.args.rules.now.sets c.args.clock.now (asking c.args.settings.now.force c.args.settings.now.mailer) c.args.remembered c.in_err-looks.ensures.some

pub returns-clause-told : goal.returns-clause-told
returns-clause-told g c = looked_done c.plan_and_act.result c.args.settings.now.state c.args.rules.now c.in_ok-looks.looks c.args.remembered c.args.clock.now (asking c.args.settings.now.force c.args.settings.now.mailer) c.plan_and_act.new.reached c.args.progress.now.faults.items c.look_all.new.faults.items c.plan_and_act.new.progress.faults.items _
    c.in_ok-looks.ensures.told c.plan_and_act.ensures.told

pub returns-clause-some : goal.returns-clause-some
returns-clause-some g c = behind_looks c.plan_and_act.result c.args.settings.now.state c.args.rules.now c.in_ok-looks.looks c.args.remembered c.args.clock.now (asking c.args.settings.now.force c.args.settings.now.mailer) c.args.progress.now.faults.items c.look_all.new.faults.items _
    c.in_ok-looks.ensures.told c.plan_and_act.ensures.some

pub returns-clause-went : goal.returns-clause-went
returns-clause-went g c = went_then c.plan_and_act.result c.args.progress.now.faults.items c.look_all.new.faults.items c.plan_and_act.new.progress.faults.items _ _ _ c.in_ok-looks.ensures.went c.plan_and_act.ensures.went
