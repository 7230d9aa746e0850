use Rattle.std.proofs.Common.{[]}
use Rattle.lr_report.proofs.PutLemmas.{part_first, part_on}
use Rattle.lr_report.proofs.put.put_two.Goals as goal

pub returns-clause-part : goal.returns-clause-part
returns-clause-part g c = part_on _ _ _ _ _ c.in_ok-put_one.ensures.whole (part_first c.args.b.now [] _ _ c.put_one-2.ensures.part)
