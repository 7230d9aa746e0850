use Rattle.std.proofs.Common.{rules, ◌≡◌, ◌++◌, Ok, Err, map, ap, List, ◌∙◌}
use Rattle.std.specs.List.{flat_map}
use Rattle.lr_rules.specs.declared.fault.Phase.TheVariants as phase
use Rattle.lr_plan.specs.Steps.{program, steps_of_log}
use Rattle.lr_shown.specs.Lines.{lines_of}
use Rattle.lr_shown.proofs.Texts.{texts_map}
use Rattle.lr_plan.specs.declared.plan.LogPlan.{LogPlan}
use Rattle.lr_shown.proofs.Joined.{program_as, puts_as, steps_on, steps_stop}
use Rattle.lr_shown.proofs.plan.put_single.Goals as goal

pub returns-in_err-put_program : goal.returns-in_err-put_program
returns-in_err-put_program g c =
    let failed : c.from_residual.result ≡ Err c.in_err-put_program.field-0.0 = search rules in
    steps_stop (program phase.First c.args.set.now.first) (flat_map (λ steps. steps) (map steps_of_log c.args.set.now.logs) ++ (program phase.Last c.args.set.now.last)) c.in_err-put_program.field-0.0 c.in_err-put_program.field-0.0 c.from_residual.result _ _ _ _ failed (program_as phase.First _ c.args.set.now.first (Err c.in_err-put_program.field-0.0) _ _ _ _ c.as_ref.ensures.value c.in_err-put_program.ensures)

pub returns-in_err-put_logs : goal.returns-in_err-put_logs
returns-in_err-put_logs g c =
    let failed : c.from_residual-in_err-put_logs.result ≡ Err c.in_err-put_logs.field-0.0 = search rules in
    steps_on (program phase.First c.args.set.now.first) (flat_map (λ steps. steps) (map steps_of_log c.args.set.now.logs) ++ (program phase.Last c.args.set.now.last)) c.from_residual-in_err-put_logs.result _ _ _ _ _ _ (program_as phase.First _ c.args.set.now.first (Ok tt) _ _ _ _ c.as_ref.ensures.value c.in_ok-put_program.ensures)
    (steps_stop (flat_map (λ steps. steps) (map steps_of_log c.args.set.now.logs)) (program phase.Last c.args.set.now.last) c.in_err-put_logs.field-0.0 c.in_err-put_logs.field-0.0 c.from_residual-in_err-put_logs.result _ _ _ _ failed (puts_as _ (lines_of (flat_map (λ steps. steps) (map steps_of_log c.args.set.now.logs))) (Err c.in_err-put_logs.field-0.0) _ _ _ _ (ap (λ (xs : List LogPlan). lines_of (flat_map steps_of_log xs)) c.as_slice.ensures ∙ ap lines_of (texts_map (λ steps. steps) steps_of_log c.args.set.now.logs)) c.in_err-put_logs.ensures))

pub returns : goal.returns
returns g c = steps_on (program phase.First c.args.set.now.first) (flat_map (λ steps. steps) (map steps_of_log c.args.set.now.logs) ++ (program phase.Last c.args.set.now.last)) c.put_program-2.result _ _ _ _ _ _ (program_as phase.First _ c.args.set.now.first (Ok tt) _ _ _ _ c.as_ref.ensures.value c.in_ok-put_program.ensures)
    (steps_on (flat_map (λ steps. steps) (map steps_of_log c.args.set.now.logs)) (program phase.Last c.args.set.now.last) c.put_program-2.result _ _ _ _ _ _ (puts_as _ (lines_of (flat_map (λ steps. steps) (map steps_of_log c.args.set.now.logs))) (Ok tt) _ _ _ _ (ap (λ (xs : List LogPlan). lines_of (flat_map steps_of_log xs)) c.as_slice.ensures ∙ ap lines_of (texts_map (λ steps. steps) steps_of_log c.args.set.now.logs)) c.in_ok-put_logs.ensures)
    (program_as phase.Last _ c.args.set.now.last c.put_program-2.result _ _ _ _ c.as_ref-2.ensures.value c.put_program-2.ensures))
