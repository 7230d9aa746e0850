use Rattle.std.proofs.Common.{sym}
use Rattle.lr_disk.specs.Pending.{as_change}
use Rattle.lr_disk.proofs.StepLemmas.{apart_listed, apart_other, shares_undone}
use Rattle.lr_disk.proofs.closed.is_apart.Goals.{else-not-lists-via-then-not-lists+else-share, else-not-lists-via-else-not-lists}
use Rattle.lr_disk.proofs.closed.is_apart.Goals as goal

pub returns-then-share : goal.returns-then-share
returns-then-share c = ((λ t. absurd (cc)), λ a. absurd (shares_undone (as_change c.args.change.now) c.args.kept.now c.args.earlier.now c.loop-i.i c.index-earlier-i.result c.loop-i-test.true c.index-earlier-i.is (sym (c.if-not-lists.ensures)) (sym (c.if-share.ensures)) a))

pub loop-i-preserved : goal.loop-i-preserved
loop-i-preserved c = elim c.else-not-lists.branch [
  | else-not-lists-via-then-not-lists+else-share w ↦ apart_other (as_change c.args.change.now) c.args.kept.now c.args.earlier.now c.loop-i.i w.index-earlier-i.result c.loop-i-test.true w.index-earlier-i.is (sym (w.if-not-lists.ensures)) (sym (w.if-share.ensures)) c.loop-i.invariant
  | else-not-lists-via-else-not-lists w ↦ apart_listed (as_change c.args.change.now) c.args.kept.now c.args.earlier.now c.loop-i.i c.loop-i-test.true (sym (w.if-not-lists.ensures)) c.loop-i.invariant
]
