use Rattle.std.proofs.Common.{◌+◌, ap, ◌∙◌}
use Rattle.lr_acts.proofs.Counting.{sets_more}
use Rattle.lr_acts.proofs.room.count_all.Goals as goal

pub loop-set-preserved : goal.loop-set-preserved
loop-set-preserved c = record {
  count = sets_more c.args.sets.now c.loop-set.set-index c.loop-set.count c.in_ok-count.count c.set-item.result c.loop-set-test.true c.set-item.is c.loop-set.invariant.count
      (c.in_ok-count.ensures ∙ ap (λ k. c.loop-set.count + k) c.in_ok-count_set.ensures);
}
