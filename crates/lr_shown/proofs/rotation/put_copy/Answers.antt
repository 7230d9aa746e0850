use Rattle.std.proofs.Common.{rules, ◌≡◌, ◌++◌, ◌∷◌, [], Ok, Err}
use Rattle.lr_plan.specs.declared.step.Step.TheVariants as step
use Rattle.lr_plan.specs.Steps.{copy, step_if}
use Rattle.lr_shown.specs.Lines.{lines_of}
use Rattle.lr_shown.proofs.Joined.{puts_as, steps_on, steps_stop}
use Rattle.lr_shown.proofs.Texts.{copy_lines, lines_if}
use Rattle.lr_shown.proofs.rotation.put_copy.Goals as goal

pub returns-in_err-put_path_if : goal.returns-in_err-put_path_if
returns-in_err-put_path_if g c =
    let failed : c.from_residual.result ≡ Err c.in_err-put_path_if.field-0.0 = search rules in
    puts_as _ (lines_of (copy c.args.job.now)) c.from_residual.result _ _ _ _ (copy_lines c.args.job.now)
    (steps_stop (step_if c.args.job.now.stale (step.Removes c.args.job.now.part)) ((step.Copies c.args.job.now.from c.args.job.now.part c.args.job.now.limit ∷ step.Renames c.args.job.now.part c.args.job.now.to ∷ []) ++ (step_if c.args.job.now.cut (step.Truncates c.args.job.now.from))) c.in_err-put_path_if.field-0.0 c.in_err-put_path_if.field-0.0 c.from_residual.result _ _ _ _ failed
    (puts_as _ (lines_of (step_if c.args.job.now.stale (step.Removes c.args.job.now.part))) (Err c.in_err-put_path_if.field-0.0) _ _ _ _ (lines_if c.args.job.now.stale (step.Removes c.args.job.now.part)) c.in_err-put_path_if.ensures))

pub returns-in_err-put_bytes : goal.returns-in_err-put_bytes
returns-in_err-put_bytes g c =
    let failed : c.from_residual-in_err-put_bytes.result ≡ Err c.in_err-put_bytes.field-0.0 = search rules in
    puts_as _ (lines_of (copy c.args.job.now)) c.from_residual-in_err-put_bytes.result _ _ _ _ (copy_lines c.args.job.now)
    (steps_on (step_if c.args.job.now.stale (step.Removes c.args.job.now.part)) ((step.Copies c.args.job.now.from c.args.job.now.part c.args.job.now.limit ∷ step.Renames c.args.job.now.part c.args.job.now.to ∷ []) ++ (step_if c.args.job.now.cut (step.Truncates c.args.job.now.from))) c.from_residual-in_err-put_bytes.result _ _ _ _ _ _
    (puts_as _ (lines_of (step_if c.args.job.now.stale (step.Removes c.args.job.now.part))) (Ok tt) _ _ _ _ (lines_if c.args.job.now.stale (step.Removes c.args.job.now.part)) c.in_ok-put_path_if.ensures)
    (steps_stop (step.Copies c.args.job.now.from c.args.job.now.part c.args.job.now.limit ∷ step.Renames c.args.job.now.part c.args.job.now.to ∷ []) (step_if c.args.job.now.cut (step.Truncates c.args.job.now.from)) c.in_err-put_bytes.field-0.0 c.in_err-put_bytes.field-0.0 c.from_residual-in_err-put_bytes.result _ _ _ _ failed c.in_err-put_bytes.ensures))

pub returns : goal.returns
returns g c =
    puts_as _ (lines_of (copy c.args.job.now)) c.put_path_if-2.result _ _ _ _ (copy_lines c.args.job.now)
    (steps_on (step_if c.args.job.now.stale (step.Removes c.args.job.now.part)) ((step.Copies c.args.job.now.from c.args.job.now.part c.args.job.now.limit ∷ step.Renames c.args.job.now.part c.args.job.now.to ∷ []) ++ (step_if c.args.job.now.cut (step.Truncates c.args.job.now.from))) c.put_path_if-2.result _ _ _ _ _ _
    (puts_as _ (lines_of (step_if c.args.job.now.stale (step.Removes c.args.job.now.part))) (Ok tt) _ _ _ _ (lines_if c.args.job.now.stale (step.Removes c.args.job.now.part)) c.in_ok-put_path_if.ensures)
    (steps_on (step.Copies c.args.job.now.from c.args.job.now.part c.args.job.now.limit ∷ step.Renames c.args.job.now.part c.args.job.now.to ∷ []) (step_if c.args.job.now.cut (step.Truncates c.args.job.now.from)) c.put_path_if-2.result _ _ _ _ _ _ c.in_ok-put_bytes.ensures (puts_as _ (lines_of (step_if c.args.job.now.cut (step.Truncates c.args.job.now.from))) c.put_path_if-2.result _ _ _ _ (lines_if c.args.job.now.cut (step.Truncates c.args.job.now.from)) c.put_path_if-2.ensures)))
