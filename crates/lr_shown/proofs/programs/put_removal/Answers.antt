use Rattle.std.proofs.Common.{rules, ◌≡◌, ◌++◌, ◌∷◌, [], Ok, Err}
use Rattle.lr_rules.specs.declared.fault.Phase.TheVariants as phase
use Rattle.lr_plan.specs.declared.step.Step.TheVariants as step
use Rattle.lr_plan.specs.Steps.{program}
use Rattle.lr_shown.proofs.Joined.{line_alone, program_as, steps_on, steps_stop}
use Rattle.lr_shown.proofs.programs.put_removal.Goals as goal

pub returns-in_err-put_program : goal.returns-in_err-put_program
returns-in_err-put_program g c =
    let failed : c.from_residual.result ≡ Err c.in_err-put_program.field-0.0 = search rules in
    steps_stop (program phase.Preremove c.args.file.now.preremove) (program phase.Mail c.args.file.now.mail ++ (step.Removes c.args.file.now.path ∷ [])) c.in_err-put_program.field-0.0 c.in_err-put_program.field-0.0 c.from_residual.result _ _ _ _ failed (program_as phase.Preremove _ c.args.file.now.preremove (Err c.in_err-put_program.field-0.0) _ _ _ _ c.as_ref.ensures.value c.in_err-put_program.ensures)

pub returns-in_err-put_program-2 : goal.returns-in_err-put_program-2
returns-in_err-put_program-2 g c =
    let failed : c.from_residual-in_err-put_program-2.result ≡ Err c.in_err-put_program-2.field-0.0 = search rules in
    steps_on (program phase.Preremove c.args.file.now.preremove) (program phase.Mail c.args.file.now.mail ++ (step.Removes c.args.file.now.path ∷ [])) c.from_residual-in_err-put_program-2.result _ _ _ _ _ _ (program_as phase.Preremove _ c.args.file.now.preremove (Ok tt) _ _ _ _ c.as_ref.ensures.value c.in_ok-put_program.ensures)
    (steps_stop (program phase.Mail c.args.file.now.mail) (step.Removes c.args.file.now.path ∷ []) c.in_err-put_program-2.field-0.0 c.in_err-put_program-2.field-0.0 c.from_residual-in_err-put_program-2.result _ _ _ _ failed (program_as phase.Mail _ c.args.file.now.mail (Err c.in_err-put_program-2.field-0.0) _ _ _ _ c.as_ref-2.ensures.value c.in_err-put_program-2.ensures))

pub returns : goal.returns
returns g c = steps_on (program phase.Preremove c.args.file.now.preremove) (program phase.Mail c.args.file.now.mail ++ (step.Removes c.args.file.now.path ∷ [])) c.put_path.result _ _ _ _ _ _ (program_as phase.Preremove _ c.args.file.now.preremove (Ok tt) _ _ _ _ c.as_ref.ensures.value c.in_ok-put_program.ensures)
    (steps_on (program phase.Mail c.args.file.now.mail) (step.Removes c.args.file.now.path ∷ []) c.put_path.result _ _ _ _ _ _ (program_as phase.Mail _ c.args.file.now.mail (Ok tt) _ _ _ _ c.as_ref-2.ensures.value c.in_ok-put_program-2.ensures)
    (line_alone (step.Removes c.args.file.now.path) c.put_path.result _ _ _ _ c.put_path.ensures))
