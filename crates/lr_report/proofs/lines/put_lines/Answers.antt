use Rattle.lr_report.proofs.PutLemmas.{part_on}
use Rattle.lr_report.proofs.lines.put_lines.Goals as goal

pub returns-clause-part : goal.returns-clause-part
returns-clause-part g c = part_on _ _ _ _ _ c.in_ok-put_notices.ensures.whole c.put_faults.ensures.part
