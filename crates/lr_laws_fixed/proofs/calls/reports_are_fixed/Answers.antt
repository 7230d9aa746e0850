use Rattle.lr_laws_fixed.proofs.Reports.{reports_one}
use Rattle.lr_laws_fixed.proofs.calls.reports_are_fixed.Goals as goal

pub returns : goal.returns
returns c = reports_one
