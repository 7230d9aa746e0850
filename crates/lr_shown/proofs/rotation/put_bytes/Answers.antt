use Rattle.std.proofs.Common.{rules, ◌≡◌, ◌∷◌, [], Ok, Err}
use Rattle.lr_plan.specs.declared.step.Step.TheVariants as step
use Rattle.lr_shown.proofs.Joined.{line_alone, steps_on, steps_stop}
use Rattle.lr_shown.proofs.rotation.put_bytes.Goals as goal

pub returns-in_err-put_pair : goal.returns-in_err-put_pair
returns-in_err-put_pair g c =
    let failed : c.from_residual.result ≡ Err c.in_err-put_pair.field-0.0 = search rules in
    steps_stop (step.Copies c.args.job.now.from c.args.job.now.part c.args.job.now.limit ∷ []) (step.Renames c.args.job.now.part c.args.job.now.to ∷ []) c.in_err-put_pair.field-0.0 c.in_err-put_pair.field-0.0 c.from_residual.result _ _ _ _ failed (line_alone (step.Copies c.args.job.now.from c.args.job.now.part c.args.job.now.limit) (Err c.in_err-put_pair.field-0.0) _ _ _ _ c.in_err-put_pair.ensures)

pub returns : goal.returns
returns g c = steps_on (step.Copies c.args.job.now.from c.args.job.now.part c.args.job.now.limit ∷ []) (step.Renames c.args.job.now.part c.args.job.now.to ∷ []) c.put_pair-2.result _ _ _ _ _ _ (line_alone (step.Copies c.args.job.now.from c.args.job.now.part c.args.job.now.limit) (Ok tt) _ _ _ _ c.in_ok-put_pair.ensures)
    (line_alone (step.Renames c.args.job.now.part c.args.job.now.to) c.put_pair-2.result _ _ _ _ c.put_pair-2.ensures)
