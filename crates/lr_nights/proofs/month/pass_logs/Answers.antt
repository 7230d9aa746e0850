use Rattle.std.proofs.Common.{suc, arith}
use Rattle.lr_nights.proofs.month.pass_logs.Goals as goal

pub loop-log-preserved : goal.loop-log-preserved
loop-log-preserved c = λ left e. rw (c.draw-in-loop-log.ensures.next, c.draw.ensures.next) (c.loop-log.invariant (suc left) (omega arith))

pub returns : goal.returns
returns c = c.loop-log.invariant 0 (omega arith)
