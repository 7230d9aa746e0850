use Rattle.std.proofs.Common.{sym, ◌∙◌, ap, take}
use Rattle.lr_host.specs.World.{names_after, kept_at}
use Rattle.lr_host.proofs.Closed.{changed_alike}
use Rattle.lr_disk.specs.Names.{named_in}
use Rattle.lr_disk.specs.Pairs.{keys}
use Rattle.lr_disk.specs.Pending.{as_change, pending_of}
use Rattle.lr_disk.proofs.StepLemmas.{known_at, known_same, kept_same, kept_next, has_same}
use Rattle.lr_disk.proofs.replay.keep.Goals.{then-lists, else-lists}
use Rattle.lr_disk.proofs.replay.keep.Goals as goal

pub replay-requires : goal.replay-requires
replay-requires c = known_same c.args.names.now c.loop-i.names (as_change c.index-changes-i.result) (λ x h. has_same c.args.names.now c.loop-i.names x c.loop-i.invariant.same h)
    (known_at c.args.names.now c.args.changes.now c.loop-i.i c.index-changes-i.result c.loop-i-test.true c.index-changes-i.is c.requires)

pub loop-i-preserved : goal.loop-i-preserved
loop-i-preserved c = elim c.if-lists.branch [
  | then-lists w ↦ record {
    named = λ x. ap (λ ns. named_in ns x) w.names-is ∙ (w.replay.ensures.named x
        ∙ (changed_alike (as_change w.index-changes-i.result) (named_in c.loop-i.names) (names_after (named_in c.args.names.now) (kept_at c.args.kept.now (pending_of (take c.loop-i.i c.args.changes.now)))) x (λ y t. c.loop-i.invariant.named y) (c.loop-i.invariant.named x)
        ∙ sym (ap (λ cs. names_after (named_in c.args.names.now) cs x) (kept_next c.args.kept.now c.args.changes.now c.loop-i.i w.index-changes-i.result c.loop-i-test.true w.index-changes-i.is (sym (w.if-lists.ensures))))));
    same = ap keys w.names-is ∙ (w.replay.ensures.keys ∙ c.loop-i.invariant.same);
  }
  | else-lists w ↦ record {
    named = λ x. ap (λ ns. named_in ns x) w.names-is ∙ (c.loop-i.invariant.named x ∙ sym (ap (λ cs. names_after (named_in c.args.names.now) cs x) (kept_same c.args.kept.now c.args.changes.now c.loop-i.i c.loop-i-test.true (sym (w.if-lists.ensures)))));
    same = ap keys w.names-is ∙ c.loop-i.invariant.same;
  }
]
