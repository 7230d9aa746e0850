use Rattle.std.proofs.Common.{rules, ◌≡◌, ◌++◌, Err}
use Rattle.lr_rules.specs.declared.fault.Phase.TheVariants as phase
use Rattle.lr_plan.specs.Steps.{finishing, program, removals}
use Rattle.lr_shown.proofs.Joined.{steps_on, steps_stop}
use Rattle.lr_shown.proofs.rotation.put_retirement.Goals as goal

pub returns-in_err-put_finishing : goal.returns-in_err-put_finishing
returns-in_err-put_finishing g c =
    let failed : c.from_residual.result ≡ Err c.in_err-put_finishing.field-0.0 = search rules in
    steps_stop (finishing c.args.log.now.job c.args.log.now.aside) (program phase.Mail c.args.log.now.first_mail ++ removals c.args.log.now.ready.retire) c.in_err-put_finishing.field-0.0 c.in_err-put_finishing.field-0.0 c.from_residual.result _ _ _ _ failed c.in_err-put_finishing.ensures

pub returns : goal.returns
returns g c = steps_on (finishing c.args.log.now.job c.args.log.now.aside) (program phase.Mail c.args.log.now.first_mail ++ removals c.args.log.now.ready.retire) c.put_removing.result _ _ _ _ _ _ c.in_ok-put_finishing.ensures c.put_removing.ensures
