use Rattle.std.proofs.Common.{rules, ◌≡◌, ◌++◌, Ok, Err}
use Rattle.lr_rules.specs.declared.fault.Phase.TheVariants as phase
use Rattle.lr_plan.specs.Steps.{program, retirement_of, rotation_of}
use Rattle.lr_shown.proofs.Joined.{program_as, steps_on, steps_stop}
use Rattle.lr_shown.proofs.logs.put_log.Goals as goal

pub returns-in_err-put_program : goal.returns-in_err-put_program
returns-in_err-put_program g c =
    let failed : c.from_residual.result ≡ Err c.in_err-put_program.field-0.0 = search rules in
    steps_stop (program phase.Pre c.args.log.now.pre) (rotation_of c.args.log.now ++ (program phase.Post c.args.log.now.post ++ retirement_of c.args.log.now)) c.in_err-put_program.field-0.0 c.in_err-put_program.field-0.0 c.from_residual.result _ _ _ _ failed (program_as phase.Pre _ c.args.log.now.pre (Err c.in_err-put_program.field-0.0) _ _ _ _ c.as_ref.ensures.value c.in_err-put_program.ensures)

pub returns-in_err-put_rotation : goal.returns-in_err-put_rotation
returns-in_err-put_rotation g c =
    let failed : c.from_residual-in_err-put_rotation.result ≡ Err c.in_err-put_rotation.field-0.0 = search rules in
    steps_on (program phase.Pre c.args.log.now.pre) (rotation_of c.args.log.now ++ (program phase.Post c.args.log.now.post ++ retirement_of c.args.log.now)) c.from_residual-in_err-put_rotation.result _ _ _ _ _ _ (program_as phase.Pre _ c.args.log.now.pre (Ok tt) _ _ _ _ c.as_ref.ensures.value c.in_ok-put_program.ensures)
    (steps_stop (rotation_of c.args.log.now) (program phase.Post c.args.log.now.post ++ retirement_of c.args.log.now) c.in_err-put_rotation.field-0.0 c.in_err-put_rotation.field-0.0 c.from_residual-in_err-put_rotation.result _ _ _ _ failed c.in_err-put_rotation.ensures)

pub returns : goal.returns
returns g c = steps_on (program phase.Pre c.args.log.now.pre) (rotation_of c.args.log.now ++ (program phase.Post c.args.log.now.post ++ retirement_of c.args.log.now)) c.put_rest.result _ _ _ _ _ _ (program_as phase.Pre _ c.args.log.now.pre (Ok tt) _ _ _ _ c.as_ref.ensures.value c.in_ok-put_program.ensures)
    (steps_on (rotation_of c.args.log.now) (program phase.Post c.args.log.now.post ++ retirement_of c.args.log.now) c.put_rest.result _ _ _ _ _ _ c.in_ok-put_rotation.ensures
    c.put_rest.ensures)
