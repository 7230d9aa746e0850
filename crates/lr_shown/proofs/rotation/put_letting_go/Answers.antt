use Rattle.std.proofs.Common.{rules, ◌≡◌, ◌∷◌, [], Err}
use Rattle.lr_plan.specs.declared.step.Step.TheVariants as step
use Rattle.lr_plan.specs.Steps.{copy}
use Rattle.lr_shown.proofs.Joined.{line_alone, steps_on, steps_stop}
use Rattle.lr_shown.proofs.rotation.put_letting_go.Goals as goal

pub returns-in_err-put_copy : goal.returns-in_err-put_copy
returns-in_err-put_copy g c =
    let failed : c.from_residual.result ≡ Err c.in_err-put_copy.field-0.0 = search rules in
    steps_stop (copy c.args.job.now) (step.Removes c.args.path.now ∷ []) c.in_err-put_copy.field-0.0 c.in_err-put_copy.field-0.0 c.from_residual.result _ _ _ _ failed c.in_err-put_copy.ensures

pub returns : goal.returns
returns g c = steps_on (copy c.args.job.now) (step.Removes c.args.path.now ∷ []) c.put_path.result _ _ _ _ _ _ c.in_ok-put_copy.ensures (line_alone (step.Removes c.args.path.now) c.put_path.result _ _ _ _ c.put_path.ensures)
