use Rattle.std.proofs.Common.{sym}
use Rattle.lr_state.proofs.After.{none_stamped}
use Rattle.lr_run.proofs.Carrying.{one_more_stamp}
use Rattle.lr_run.proofs.acting.stamp_all.Goals as goal

pub loop-mark-init : goal.loop-mark-init
loop-mark-init c = record { table = sym (none_stamped c.args.now c.args.table.now) }

pub loop-mark-preserved : goal.loop-mark-preserved
loop-mark-preserved c = record { table = one_more_stamp c.args.marks.now c.loop-mark.mark-index c.mark-item.result c.args.now c.args.table.now c.loop-mark.table c.stamp_mark.new.table c.loop-mark-test.true c.mark-item.is c.loop-mark.invariant.table c.stamp_mark.ensures }
