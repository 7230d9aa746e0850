use Rattle.std.proofs.Common.{rules, ◌≡◌, Ok, Err, codes, map, ap, List}
use Rattle.std.specs.List.{flat_map}
use Rattle.lr_plan.specs.Steps.{steps_of_set}
use Rattle.lr_shown.specs.Lines.{path_line, set_lines}
use Rattle.lr_plan.specs.declared.plan.SetPlan.{SetPlan}
use Rattle.lr_shown.proofs.Joined.{puts_as, puts_on, puts_stop}
use Rattle.lr_shown.proofs.plan.put_steps.Goals as goal

pub returns-in_err-put_sets : goal.returns-in_err-put_sets
returns-in_err-put_sets g c =
    let failed : c.from_residual.result ≡ Err c.in_err-put_sets.field-0.0 = search rules in
    puts_stop (flat_map set_lines (map steps_of_set c.args.plan.now.sets)) (path_line (codes "state ") c.args.state.now) c.in_err-put_sets.field-0.0 c.in_err-put_sets.field-0.0 c.from_residual.result _ _ _ _ failed (puts_as _ (flat_map set_lines (map steps_of_set c.args.plan.now.sets)) (Err c.in_err-put_sets.field-0.0) _ _ _ _ (ap (λ (xs : List SetPlan). flat_map set_lines (map steps_of_set xs)) c.as_slice.ensures) c.in_err-put_sets.ensures)

pub returns : goal.returns
returns g c = puts_on (flat_map set_lines (map steps_of_set c.args.plan.now.sets)) (path_line (codes "state ") c.args.state.now) c.put_path.result _ _ _ _ _ _ (puts_as _ (flat_map set_lines (map steps_of_set c.args.plan.now.sets)) (Ok tt) _ _ _ _ (ap (λ (xs : List SetPlan). flat_map set_lines (map steps_of_set xs)) c.as_slice.ensures) c.in_ok-put_sets.ensures)
    c.put_path.ensures
