use Rattle.lr_cli.specs.Asked.{planned_text}
use Rattle.lr_cli.proofs.Called.{report_prints, report_out}
use Rattle.lr_cli.proofs.report.report.Goals as goal

pub returns-clause-prints : goal.returns-clause-prints
returns-clause-prints g c = report_prints c.put_told-put.result (planned_text c.args.request.now c.args.told.plan) c.args.told.notices c.args.told.faults.items _ _ _ _ _ c.put_told-put.ensures c.report_after.ensures.faults c.report_after.ensures.out

pub returns-clause-out : goal.returns-clause-out
returns-clause-out g c = report_out c.put_told-put.result _ c.args.told.notices c.args.told.faults.items _ _ _ _ _ c.put_told-put.ensures c.report_after.ensures.same c.requires.no_out
