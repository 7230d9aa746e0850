use Rattle.lr_report.proofs.PutLemmas.{part_on}
use Rattle.lr_cat.proofs.notes.put_done.Goals as goal

pub returns-clause-part : goal.returns-clause-part
returns-clause-part g c = part_on _ _ _ _ _ c.in_ok-put_report.ensures.whole c.put_waits.ensures.part
