use Rattle.lr_state.proofs.After.{one_more_new}
use Rattle.lr_state.proofs.kept.add_all_new.Goals as goal

pub loop-log-preserved : goal.loop-log-preserved
loop-log-preserved c = record { table = one_more_new c.args.logs.now c.loop-log.log-index c.log-item.result c.args.now.now c.args.table.now c.loop-log.table c.add_new.new.table c.loop-log-test.true c.log-item.is c.loop-log.invariant.table c.in_ok-add_new.ensures }
