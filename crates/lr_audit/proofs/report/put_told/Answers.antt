use Rattle.std.proofs.Common.{rules, ◌≡◌, Err}
use Rattle.lr_report.specs.Lines.{report_lines}
use Rattle.lr_shown.proofs.Joined.{puts_on, puts_stop}
use Rattle.lr_audit.specs.Says.{text_told}
use Rattle.lr_audit.proofs.report.put_told.Goals as goal

pub returns-in_err-put_told_audit : goal.returns-in_err-put_told_audit
returns-in_err-put_told_audit g c =
    let failed : c.from_residual.result ≡ Err c.in_err-put_told_audit.field-0.0 = search rules in
    puts_stop (text_told c.args.told.now.audit) (report_lines c.args.told.now.notices c.args.told.now.faults.items) c.in_err-put_told_audit.field-0.0 c.in_err-put_told_audit.field-0.0 c.from_residual.result _ _ _ _ failed c.in_err-put_told_audit.ensures

pub returns : goal.returns
returns g c = puts_on (text_told c.args.told.now.audit) (report_lines c.args.told.now.notices c.args.told.now.faults.items) c.put_said_lines.result _ _ _ _ _ _ c.in_ok-put_told_audit.ensures c.put_said_lines.ensures
