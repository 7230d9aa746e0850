use Rattle.std.proofs.Common.{[], ◌∷◌, ◌++◌, ap, ◌∙◌}
use Rattle.lr_plan.specs.declared.step.Step.TheVariants as step
use Rattle.lr_plan.proofs.Adding.{added_one_by_one}
use Rattle.lr_plan.proofs.steps.add_final_name.Goals as goal

pub returns : goal.returns
returns c =
    added_one_by_one c.add_cut.result c.args.steps.now.items (step.SyncsFile c.args.job.now.part)
    (step.Renames c.args.job.now.part c.args.job.now.to) (step.SyncsDir c.args.job.now.dir) c.push.new.self.items
    c.push-2.new.self.items c.push-3.new.self.items _ c.add_cut.new.steps.items
    (c.in_ok-push.ensures.items ∙ ap (λ p. c.args.steps.now.items ++ step.SyncsFile p ∷ []) c.in_ok-copy.ensures)
    (c.in_ok-push-2.ensures.items ∙ ap (λ s. c.push.new.self.items ++ s ∷ []) c.in_ok-rename_step.ensures)
    (c.in_ok-push-3.ensures.items ∙ ap (λ p. c.push-2.new.self.items ++ step.SyncsDir p ∷ []) c.in_ok-copy-2.ensures)
    c.add_cut.ensures
