use Rattle.lr_cli.proofs.OutAside.{has_out}
use Rattle.lr_cli.proofs.report.report_after.Goals as goal

pub returns-clause-out : goal.returns-clause-out
returns-clause-out c = has_out c.args.put _ c.args.told.notices c.args.told.faults.items c.report_behind.ensures.broken_off
