use Rattle.std.proofs.Common.{Some, ap, ◌∙◌}
use Rattle.lr_host.proofs.Counts.{went_as}
use Rattle.lr_host.proofs.Known.{left_journal}
use Rattle.lr_plan.specs.Asked.{asking}
use Rattle.lr_run.proofs.Placing.{fits_behind_acts}
use Rattle.lr_run.proofs.Doing.{carried_out, too_big_told}
use Rattle.lr_run.proofs.Works.{ready_of, not_ready, ready_fit, carried_counted, none_acted, some_acted}
use Rattle.lr_run.proofs.work.plan_and_act.Goals as goal

pub carry_out-requires-clause-fits : goal.carry_out-requires-clause-fits
carry_out-requires-clause-fits g c =
    let r = ready_of c.args.settings.now.state c.args.clock.now c.args.remembered _ _ c.in_ok-plan.plan _ c.in_ok-ready.field-0 c.in-Some.ready c.args.progress.now c.make_ready.new.progress c.as_slice-kept.ensures c.in_ok-plan.ensures c.in-Some.is c.in_ok-ready.ensures in
    ready_fit _ c.args.rules.now c.args.looks.now c.args.settings.now.state c.args.remembered c.args.clock.now (asking c.args.settings.now.force c.args.settings.now.mailer) c.in-Some.ready c.args.progress.now c.make_ready.new.progress _ _ (left_journal c.requires.seen.known.read c.requires.seen.known.disk) r c.requires.seen.looked

pub carry_out-requires-clause-fits_state : goal.carry_out-requires-clause-fits_state
carry_out-requires-clause-fits_state g c =
    let r = ready_of c.args.settings.now.state c.args.clock.now c.args.remembered _ _ c.in_ok-plan.plan _ c.in_ok-ready.field-0 c.in-Some.ready c.args.progress.now c.make_ready.new.progress c.as_slice-kept.ensures c.in_ok-plan.ensures c.in-Some.is c.in_ok-ready.ensures in
    fits_behind_acts c.args.settings.now.state c.args.rules.now c.args.looks.now c.args.remembered c.args.clock.now (asking c.args.settings.now.force c.args.settings.now.mailer) c.in-Some.ready c.args.progress.now c.make_ready.new.progress _ r c.requires.seen

pub returns-in-Some-clause-told : goal.returns-in-Some-clause-told
returns-in-Some-clause-told g c =
    let r = ready_of c.args.settings.now.state c.args.clock.now c.args.remembered _ _ c.in_ok-plan.plan _ c.in_ok-ready.field-0 c.in-Some.ready c.args.progress.now c.make_ready.new.progress c.as_slice-kept.ensures c.in_ok-plan.ensures c.in-Some.is c.in_ok-ready.ensures in
    carried_out c.carry_out.result c.args.settings.now.state c.args.rules.now c.args.looks.now c.args.remembered c.args.clock.now (asking c.args.settings.now.force c.args.settings.now.mailer) c.reach.new.reached c.in-Some.ready c.args.progress.now c.make_ready.new.progress c.carry_out.new.progress _ _ _ _ (c.reach.ensures ∙ ap Some c.in_ok-plan.ensures) r c.requires.seen c.carry_out.ensures.told

pub returns-in-Some-clause-some : goal.returns-in-Some-clause-some
returns-in-Some-clause-some g c =
    let r = ready_of c.args.settings.now.state c.args.clock.now c.args.remembered _ _ c.in_ok-plan.plan _ c.in_ok-ready.field-0 c.in-Some.ready c.args.progress.now c.make_ready.new.progress c.as_slice-kept.ensures c.in_ok-plan.ensures c.in-Some.is c.in_ok-ready.ensures in
    some_acted c.carry_out.result c.args.settings.now.state c.args.rules.now c.args.looks.now c.args.remembered c.args.clock.now (asking c.args.settings.now.force c.args.settings.now.mailer) c.in-Some.ready c.args.progress.now c.make_ready.new.progress _ _ r c.carry_out.ensures.memory c.carry_out.ensures.some

pub returns-in-Some-clause-went : goal.returns-in-Some-clause-went
returns-in-Some-clause-went g c =
    let r = ready_of c.args.settings.now.state c.args.clock.now c.args.remembered _ _ c.in_ok-plan.plan _ c.in_ok-ready.field-0 c.in-Some.ready c.args.progress.now c.make_ready.new.progress c.as_slice-kept.ensures c.in_ok-plan.ensures c.in-Some.is c.in_ok-ready.ensures in
    went_as c.carry_out.result c.args.progress.now.faults.items c.carry_out.new.progress.faults.items _ _ (carried_counted c.carry_out.result c.args.settings.now.state c.args.rules.now c.args.looks.now c.args.remembered c.args.clock.now (asking c.args.settings.now.force c.args.settings.now.mailer) c.in-Some.ready c.args.progress.now c.make_ready.new.progress c.carry_out.new.progress _ _ _ _ r c.carry_out.ensures.told) c.carry_out.ensures.counts

pub returns-in-None-clause-told : goal.returns-in-None-clause-told
returns-in-None-clause-told g c =
    too_big_told c.add_too_big.result c.args.settings.now.state c.args.rules.now c.args.looks.now c.args.remembered c.args.clock.now (asking c.args.settings.now.force c.args.settings.now.mailer) c.args.reached.now c.args.progress.now c.make_ready.new.progress c.add_too_big.new.faults.items _ c.requires.none
    (not_ready c.args.settings.now.state c.args.clock.now c.args.remembered _ _ c.in_ok-plan.plan _ c.in_ok-ready.field-0 c.args.progress.now c.make_ready.new.progress c.as_slice-kept.ensures c.in_ok-plan.ensures c.in-None.is c.in_ok-ready.ensures) c.add_too_big.ensures.faults

pub returns-in_err-plan-clause-some : goal.returns-in_err-plan-clause-some
returns-in_err-plan-clause-some g c = none_acted c.from_residual.result c.args.rules.now c.args.looks.now c.args.settings.now.state c.args.remembered c.args.clock.now (asking c.args.settings.now.force c.args.settings.now.mailer) _

pub returns-in_err-ready-clause-some : goal.returns-in_err-ready-clause-some
returns-in_err-ready-clause-some g c = none_acted c.from_residual-in_err-ready.result c.args.rules.now c.args.looks.now c.args.settings.now.state c.args.remembered c.args.clock.now (asking c.args.settings.now.force c.args.settings.now.mailer) _

pub returns-in-None-clause-some : goal.returns-in-None-clause-some
returns-in-None-clause-some g c = none_acted c.add_too_big.result c.args.rules.now c.args.looks.now c.args.settings.now.state c.args.remembered c.args.clock.now (asking c.args.settings.now.force c.args.settings.now.mailer) _
