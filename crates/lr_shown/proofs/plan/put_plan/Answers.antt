use Rattle.std.proofs.Common.{rules, ◌≡◌, [], Ok, Err, ap, List, if◌then◌else◌}
use Rattle.std.specs.List.{flat_map}
use Rattle.lr_rules.specs.declared.path.Path.{Path}
use Rattle.lr_due.specs.declared.answer.Due.{Due}
use Rattle.lr_shown.specs.Lines.{decision_line, steps_text}
use Rattle.lr_shown.proofs.Joined.{puts_as, puts_on, puts_stop}
use Rattle.lr_shown.proofs.plan.put_plan.Goals as goal

pub returns-in_err-put_decisions : goal.returns-in_err-put_decisions
returns-in_err-put_decisions g c =
    let failed : c.from_residual.result ≡ Err c.in_err-put_decisions.field-0.0 = search rules in
    puts_stop (flat_map decision_line c.args.plan.now.decisions) (if c.args.steps then steps_text c.args.state.now c.args.plan.now else []) c.in_err-put_decisions.field-0.0 c.in_err-put_decisions.field-0.0 c.from_residual.result _ _ _ _ failed (puts_as _ (flat_map decision_line c.args.plan.now.decisions) (Err c.in_err-put_decisions.field-0.0) _ _ _ _ (ap (λ (xs : List (Path × Due)). flat_map decision_line xs) c.as_slice.ensures) c.in_err-put_decisions.ensures)

pub returns : goal.returns
returns g c = puts_on (flat_map decision_line c.args.plan.now.decisions) (if c.args.steps then steps_text c.args.state.now c.args.plan.now else []) c.put_steps_if.result _ _ _ _ _ _ (puts_as _ (flat_map decision_line c.args.plan.now.decisions) (Ok tt) _ _ _ _ (ap (λ (xs : List (Path × Due)). flat_map decision_line xs) c.as_slice.ensures) c.in_ok-put_decisions.ensures)
    c.put_steps_if.ensures
