use Rattle.std.proofs.Common.{rules, ◌≡◌, Ok, Err, ap, List}
use Rattle.lr_rules.specs.declared.fault.Phase.TheVariants as phase
use Rattle.lr_plan.specs.Steps.{program, removals}
use Rattle.lr_scripts.specs.declared.removal.Removal.{Removal}
use Rattle.lr_shown.specs.Lines.{lines_of}
use Rattle.lr_shown.proofs.Joined.{program_as, puts_as, steps_on, steps_stop}
use Rattle.lr_shown.proofs.rotation.put_removing.Goals as goal

pub returns-in_err-put_program : goal.returns-in_err-put_program
returns-in_err-put_program g c =
    let failed : c.from_residual.result ≡ Err c.in_err-put_program.field-0.0 = search rules in
    steps_stop (program phase.Mail c.args.log.now.first_mail) (removals c.args.log.now.ready.retire) c.in_err-put_program.field-0.0 c.in_err-put_program.field-0.0 c.from_residual.result _ _ _ _ failed (program_as phase.Mail _ c.args.log.now.first_mail (Err c.in_err-put_program.field-0.0) _ _ _ _ c.as_ref.ensures.value c.in_err-put_program.ensures)

pub returns : goal.returns
returns g c = steps_on (program phase.Mail c.args.log.now.first_mail) (removals c.args.log.now.ready.retire) c.put_removals.result _ _ _ _ _ _ (program_as phase.Mail _ c.args.log.now.first_mail (Ok tt) _ _ _ _ c.as_ref.ensures.value c.in_ok-put_program.ensures)
    (puts_as _ (lines_of (removals c.args.log.now.ready.retire)) c.put_removals.result _ _ _ _ (ap (λ (xs : List Removal). lines_of (removals xs)) c.as_slice.ensures) c.put_removals.ensures)
