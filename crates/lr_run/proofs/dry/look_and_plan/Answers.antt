use Rattle.std.proofs.Common.{refl}
use Rattle.lr_plan.specs.Asked.{asking}
use Rattle.lr_run.proofs.Trying.{planned, planned_went, all_looked}
use Rattle.lr_looks.proofs.Whole.{some_looked}
use Rattle.lr_run.proofs.dry.look_and_plan.Goals as goal

pub returns-in_err-looks-clause-some : goal.returns-in_err-looks-clause-some
returns-in_err-looks-clause-some g c = some_looked c.from_residual.result c.args.settings.now.state _ c.args.rules.now.sets refl c.in_err-looks.ensures.some

pub returns-clause-told : goal.returns-clause-told
returns-clause-told g c = planned c.plan_dry.result c.args.settings.now.state c.args.rules.now.sets c.in_ok-looks.looks c.args.table c.args.clock.now (asking c.args.settings.now.force c.args.settings.now.mailer) c.args.faults.now.items c.look_all.new.faults.items c.plan_dry.new.faults.items
    c.in_ok-looks.ensures.told c.plan_dry.ensures.follows

pub returns-clause-some : goal.returns-clause-some
returns-clause-some g c = all_looked c.plan_dry.result c.args.settings.now.state c.args.rules.now.sets c.in_ok-looks.looks c.args.faults.now.items c.look_all.new.faults.items c.in_ok-looks.ensures.told

pub returns-clause-went : goal.returns-clause-went
returns-clause-went g c = planned_went c.plan_dry.result c.args.rules.now.sets c.in_ok-looks.looks.sets c.in_ok-looks.looks.kept c.args.table c.args.clock.now (asking c.args.settings.now.force c.args.settings.now.mailer) c.args.faults.now.items c.look_all.new.faults.items c.plan_dry.new.faults.items _ _ c.in_ok-looks.ensures.went c.plan_dry.ensures.follows
