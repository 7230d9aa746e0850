use Rattle.std.proofs.Common.{rules, ◌≡◌, ◌++◌, Ok, Err, ap, List}
use Rattle.std.specs.List.{flat_map}
use Rattle.lr_rules.specs.declared.fault.Phase.TheVariants as phase
use Rattle.lr_plan.specs.Steps.{program, rotation_of}
use Rattle.lr_plan.specs.declared.plan.LogPlan.{LogPlan}
use Rattle.lr_shown.specs.Lines.{lines_of}
use Rattle.lr_shown.proofs.Joined.{program_as, puts_as, steps_on, steps_stop}
use Rattle.lr_shown.proofs.plan.put_shared_front.Goals as goal

pub returns-in_err-put_program : goal.returns-in_err-put_program
returns-in_err-put_program g c =
    let failed : c.from_residual.result ≡ Err c.in_err-put_program.field-0.0 = search rules in
    steps_stop (program phase.First c.args.set.now.first) (program phase.Pre c.args.set.now.pre ++ (flat_map rotation_of c.args.set.now.logs)) c.in_err-put_program.field-0.0 c.in_err-put_program.field-0.0 c.from_residual.result _ _ _ _ failed (program_as phase.First _ c.args.set.now.first (Err c.in_err-put_program.field-0.0) _ _ _ _ c.as_ref.ensures.value c.in_err-put_program.ensures)

pub returns-in_err-put_program-2 : goal.returns-in_err-put_program-2
returns-in_err-put_program-2 g c =
    let failed : c.from_residual-in_err-put_program-2.result ≡ Err c.in_err-put_program-2.field-0.0 = search rules in
    steps_on (program phase.First c.args.set.now.first) (program phase.Pre c.args.set.now.pre ++ (flat_map rotation_of c.args.set.now.logs)) c.from_residual-in_err-put_program-2.result _ _ _ _ _ _ (program_as phase.First _ c.args.set.now.first (Ok tt) _ _ _ _ c.as_ref.ensures.value c.in_ok-put_program.ensures)
    (steps_stop (program phase.Pre c.args.set.now.pre) (flat_map rotation_of c.args.set.now.logs) c.in_err-put_program-2.field-0.0 c.in_err-put_program-2.field-0.0 c.from_residual-in_err-put_program-2.result _ _ _ _ failed (program_as phase.Pre _ c.args.set.now.pre (Err c.in_err-put_program-2.field-0.0) _ _ _ _ c.as_ref-2.ensures.value c.in_err-put_program-2.ensures))

pub returns : goal.returns
returns g c = steps_on (program phase.First c.args.set.now.first) (program phase.Pre c.args.set.now.pre ++ (flat_map rotation_of c.args.set.now.logs)) c.put_rotations.result _ _ _ _ _ _ (program_as phase.First _ c.args.set.now.first (Ok tt) _ _ _ _ c.as_ref.ensures.value c.in_ok-put_program.ensures)
    (steps_on (program phase.Pre c.args.set.now.pre) (flat_map rotation_of c.args.set.now.logs) c.put_rotations.result _ _ _ _ _ _ (program_as phase.Pre _ c.args.set.now.pre (Ok tt) _ _ _ _ c.as_ref-2.ensures.value c.in_ok-put_program-2.ensures)
    (puts_as _ (lines_of (flat_map rotation_of c.args.set.now.logs)) c.put_rotations.result _ _ _ _ (ap (λ (xs : List LogPlan). lines_of (flat_map rotation_of xs)) c.as_slice.ensures) c.put_rotations.ensures))
