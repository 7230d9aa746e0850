use Rattle.std.proofs.Common.{rules, ◌≡◌, Ok, Err}
use Rattle.lr_rules.specs.declared.fault.Phase.TheVariants as phase
use Rattle.lr_plan.specs.Steps.{program, retirement_of}
use Rattle.lr_shown.proofs.Joined.{program_as, steps_on, steps_stop}
use Rattle.lr_shown.proofs.logs.put_rest.Goals as goal

pub returns-in_err-put_program : goal.returns-in_err-put_program
returns-in_err-put_program g c =
    let failed : c.from_residual.result ≡ Err c.in_err-put_program.field-0.0 = search rules in
    steps_stop (program phase.Post c.args.log.now.post) (retirement_of c.args.log.now) c.in_err-put_program.field-0.0 c.in_err-put_program.field-0.0 c.from_residual.result _ _ _ _ failed (program_as phase.Post _ c.args.log.now.post (Err c.in_err-put_program.field-0.0) _ _ _ _ c.as_ref.ensures.value c.in_err-put_program.ensures)

pub returns : goal.returns
returns g c = steps_on (program phase.Post c.args.log.now.post) (retirement_of c.args.log.now) c.put_retirement.result _ _ _ _ _ _ (program_as phase.Post _ c.args.log.now.post (Ok tt) _ _ _ _ c.as_ref.ensures.value c.in_ok-put_program.ensures)
    c.put_retirement.ensures
