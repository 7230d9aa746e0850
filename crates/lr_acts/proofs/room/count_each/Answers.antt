use Rattle.std.proofs.Common.{◌+◌, ap, ◌∙◌}
use Rattle.lr_acts.proofs.Counting.{each_more}
use Rattle.lr_acts.proofs.room.count_each.Goals as goal

pub loop-steps-preserved : goal.loop-steps-preserved
loop-steps-preserved c = record {
  count = each_more c.args.each.now c.loop-steps.steps-index c.loop-steps.count c.in_ok-count.count c.steps-item.result c.loop-steps-test.true c.steps-item.is c.loop-steps.invariant.count
      (c.in_ok-count.ensures ∙ ap (λ k. c.loop-steps.count + k) c.len.ensures);
}
