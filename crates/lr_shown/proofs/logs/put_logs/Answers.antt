use Rattle.std.proofs.Common.{rules, ◌≡◌, Ok, Err}
use Rattle.std.specs.List.{flat_map}
use Rattle.lr_plan.specs.Steps.{steps_of_log}
use Rattle.lr_shown.specs.Lines.{lines_of, step_line}
use Rattle.lr_shown.proofs.Joined.{puts_all, puts_as, puts_broken, puts_next}
use Rattle.lr_shown.proofs.Texts.{texts_each}
use Rattle.lr_shown.proofs.logs.put_logs.Goals as goal

pub returns-in_err-put_log : goal.returns-in_err-put_log
returns-in_err-put_log g c =
    let failed : c.from_residual.result ≡ Err c.in_err-put_log.field-0.0 = search rules in
    puts_as _ (lines_of (flat_map steps_of_log c.args.logs.now)) c.from_residual.result _ _ _ _ (texts_each step_line steps_of_log c.args.logs.now)
    (puts_broken (λ log. lines_of (steps_of_log log)) c.args.logs.now c.loop-log.log-index c.log-item.result c.in_err-put_log.field-0.0 c.in_err-put_log.field-0.0 c.from_residual.result _ _ _ _ _ _ c.log-item.is c.loop-log-test.true failed c.loop-log.invariant c.in_err-put_log.ensures)

pub loop-log-preserved : goal.loop-log-preserved
loop-log-preserved g c = puts_next (λ log. lines_of (steps_of_log log)) c.args.logs.now c.loop-log.log-index c.log-item.result _ _ _ _ _ _ c.log-item.is c.loop-log-test.true c.loop-log.invariant c.in_ok-put_log.ensures

pub returns : goal.returns
returns g c = puts_as _ (lines_of (flat_map steps_of_log c.args.logs.now)) (Ok tt) _ _ _ _ (texts_each step_line steps_of_log c.args.logs.now) (puts_all (λ log. lines_of (steps_of_log log)) c.args.logs.now c.loop-log.log-index _ _ _ _ c.loop-log-test.false c.loop-log.invariant)
