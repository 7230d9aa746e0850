use Rattle.std.proofs.Common.{rules, ◌≡◌, Err}
use Rattle.lr_report.specs.Lines.{report_lines}
use Rattle.lr_shown.proofs.Joined.{puts_on, puts_stop}
use Rattle.lr_cli.specs.Asked.{planned_text}
use Rattle.lr_cli.proofs.report.put_told.Goals as goal

pub returns-in_err-put_planned : goal.returns-in_err-put_planned
returns-in_err-put_planned g c =
    let failed : c.from_residual.result ≡ Err c.in_err-put_planned.field-0.0 = search rules in
    puts_stop (planned_text c.args.request.now c.args.told.now.plan) (report_lines c.args.told.now.notices c.args.told.now.faults.items) c.in_err-put_planned.field-0.0 c.in_err-put_planned.field-0.0 c.from_residual.result _ _ _ _ failed c.in_err-put_planned.ensures

pub returns : goal.returns
returns g c = puts_on (planned_text c.args.request.now c.args.told.now.plan) (report_lines c.args.told.now.notices c.args.told.now.faults.items) c.put_said_lines.result _ _ _ _ _ _ c.in_ok-put_planned.ensures c.put_said_lines.ensures
