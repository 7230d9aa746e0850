use Rattle.std.proofs.Common.{rules, ◌≡◌, ◌∷◌, Err}
use Rattle.lr_plan.specs.declared.step.Step.TheVariants as step
use Rattle.lr_plan.specs.Steps.{made_anew, transfer}
use Rattle.lr_shown.proofs.Joined.{steps_on, steps_stop}
use Rattle.lr_shown.proofs.rotation.put_own_way.Goals as goal

pub returns-in_err-put_transfer : goal.returns-in_err-put_transfer
returns-in_err-put_transfer g c =
    let failed : c.from_residual.result ≡ Err c.in_err-put_transfer.field-0.0 = search rules in
    steps_stop (transfer c.args.log.now.ready.log c.args.log.now.ready.target c.args.log.now.job c.args.log.now.aside) (step.Rotated c.args.log.now.log ∷ made_anew c.args.log.now.ready.make c.args.log.now.log c.args.log.now.job c.args.log.now.aside) c.in_err-put_transfer.field-0.0 c.in_err-put_transfer.field-0.0 c.from_residual.result _ _ _ _ failed c.in_err-put_transfer.ensures

pub returns : goal.returns
returns g c = steps_on (transfer c.args.log.now.ready.log c.args.log.now.ready.target c.args.log.now.job c.args.log.now.aside) (step.Rotated c.args.log.now.log ∷ made_anew c.args.log.now.ready.make c.args.log.now.log c.args.log.now.job c.args.log.now.aside) c.put_made_anew.result _ _ _ _ _ _ c.in_ok-put_transfer.ensures c.put_made_anew.ensures
