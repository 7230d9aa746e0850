use Rattle.std.proofs.Common.{sym}
use Rattle.lr_disk.specs.Pending.{as_change}
use Rattle.lr_disk.proofs.StepLemmas.{shared_by}
use Rattle.lr_disk.proofs.sync.is_held_by.Goals as goal

pub returns-then-share : goal.returns-then-share
returns-then-share c = sym (shared_by c.args.dir.now c.args.newer.now (as_change c.args.change.now) c.loop-i.i c.index-newer-i.result c.loop-i-test.true c.index-newer-i.is (sym c.if-share.ensures))
