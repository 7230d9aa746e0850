use Rattle.std.proofs.Common.{rules}
use Rattle.lr_report.proofs.PutLemmas.{took_next}
use Rattle.lr_report.proofs.put.put_one.Goals as goal

pub loop-at-preserved : goal.loop-at-preserved
loop-at-preserved g c = record {
  within = search rules;
  taken = took_next c.args.text.now c.loop-at.at c.in_ok-at.field-0 _ _ _ c.loop-at.invariant.taken c.in_ok-at.ensures.taken;
  counts = search rules;
}
