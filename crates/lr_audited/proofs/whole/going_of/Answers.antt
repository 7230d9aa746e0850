use Rattle.lr_plan.specs.Asked.{asking}
use Rattle.lr_audited.proofs.Stamping.{stamped_for, going_is}
use Rattle.lr_audited.proofs.whole.going_of.Goals as goal

pub removed_by-requires : goal.removed_by-requires
removed_by-requires c = stamped_for c.args.rules.now.sets c.args.looks.now.sets c.new-state.result c.args.clock.now (asking c.args.settings.now.force c.args.settings.now.mailer) c.in_ok-plan.plan c.as_slice.result.now c.in_ok-plan.ensures c.as_slice.ensures c.requires.looks

pub returns : goal.returns
returns c = going_is c.removed_by.result c.args.rules.now.sets c.args.looks.now.sets c.new-state.result c.args.clock.now c.args.settings.now.force c.args.settings.now.mailer c.in_ok-plan.plan c.as_slice.result.now c.in_ok-plan.ensures c.as_slice.ensures c.new-state.ensures c.requires.force c.removed_by.ensures
