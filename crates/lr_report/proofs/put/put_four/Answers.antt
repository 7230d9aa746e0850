use Rattle.lr_report.proofs.PutLemmas.{part_on}
use Rattle.lr_report.proofs.put.put_four.Goals as goal

pub returns-clause-part : goal.returns-clause-part
returns-clause-part g c = part_on _ _ _ _ _ c.in_ok-put_one.ensures.whole c.put_three.ensures.part
