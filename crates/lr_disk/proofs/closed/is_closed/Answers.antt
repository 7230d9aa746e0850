use Rattle.std.proofs.Common.{sym, refl}
use Rattle.lr_disk.proofs.StepLemmas.{closed_next, closed_other, closed_apart}
use Rattle.lr_disk.proofs.closed.is_closed.Goals.{else-lists-via-then-lists+else-not-is_apart, else-lists-via-else-lists}
use Rattle.lr_disk.proofs.closed.is_closed.Goals as goal

pub returns-then-not-is_apart : goal.returns-then-not-is_apart
returns-then-not-is_apart c = ((λ t. absurd (cc)), λ h. (c.if-not-is_apart.ensures).1 (closed_apart c.args.kept.now c.args.changes.now c.loop-j.j c.index-changes-j.result c.loop-j-test.true c.index-changes-j.is (sym (c.if-lists.ensures)) h))

pub loop-j-preserved : goal.loop-j-preserved
loop-j-preserved c = elim c.else-lists.branch [
  | else-lists-via-then-lists+else-not-is_apart w ↦ closed_next c.args.kept.now c.args.changes.now c.loop-j.j w.index-changes-j.result c.loop-j-test.true w.index-changes-j.is ((w.if-not-is_apart.ensures).0 refl) c.loop-j.invariant
  | else-lists-via-else-lists w ↦ closed_other c.args.kept.now c.args.changes.now c.loop-j.j c.loop-j-test.true (sym (w.if-lists.ensures)) c.loop-j.invariant
]
