use Rattle.std.proofs.Common.{rules, ◌≡◌, Err}
use Rattle.lr_shown.specs.Lines.{decision_line}
use Rattle.lr_shown.proofs.Joined.{puts_all, puts_broken, puts_next}
use Rattle.lr_shown.proofs.decisions.put_decisions.Goals as goal

pub returns-in_err-put_decision : goal.returns-in_err-put_decision
returns-in_err-put_decision g c =
    let failed : c.from_residual.result ≡ Err c.in_err-put_decision.field-0.0 = search rules in
    puts_broken decision_line c.args.decisions.now c.loop-decision.decision-index c.decision-item.result c.in_err-put_decision.field-0.0 c.in_err-put_decision.field-0.0 c.from_residual.result _ _ _ _ _ _ c.decision-item.is c.loop-decision-test.true failed c.loop-decision.invariant c.in_err-put_decision.ensures

pub loop-decision-preserved : goal.loop-decision-preserved
loop-decision-preserved g c = puts_next decision_line c.args.decisions.now c.loop-decision.decision-index c.decision-item.result _ _ _ _ _ _ c.decision-item.is c.loop-decision-test.true c.loop-decision.invariant c.in_ok-put_decision.ensures

pub returns : goal.returns
returns g c = puts_all decision_line c.args.decisions.now c.loop-decision.decision-index _ _ _ _ c.loop-decision-test.false c.loop-decision.invariant
