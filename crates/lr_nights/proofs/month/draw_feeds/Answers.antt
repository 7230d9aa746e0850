use Rattle.std.proofs.Common.{[], ◌∷◌, ◌+◌, ◌∙◌, suc, arith, sym}
use Rattle.std.proofs.lemmas.List.{append-nil}
use Rattle.lr_nights.specs.Draws.{behind_two}
use Rattle.lr_nights.specs.Month.{fed_by, feeds_from}
use Rattle.lr_nights.proofs.Fronts.{moved}
use Rattle.lr_nights.proofs.month.draw_feeds.Goals as goal

pub loop-writer-preserved : goal.loop-writer-preserved
loop-writer-preserved c = record {
  feeds = λ left e. rw (c.in_ok-push.ensures.pushed, c.draw_fed.ensures.fed, c.draw_fed.ensures.next) (moved c.loop-writer.feeds (fed_by c.loop-writer.writer c.args.at c.loop-writer.x ∷ []) (feeds_from (c.loop-writer.writer + 1) left c.args.at (behind_two c.loop-writer.x)) _ (c.loop-writer.invariant.feeds (suc left) (omega arith)));
  next = λ left e. rw c.draw_fed.ensures.next (c.loop-writer.invariant.next (suc left) (omega arith));
}

pub returns-clause-feeds : goal.returns-clause-feeds
returns-clause-feeds c = sym (append-nil c.loop-writer.feeds) ∙ c.loop-writer.invariant.feeds 0 (omega arith)

pub returns-clause-next : goal.returns-clause-next
returns-clause-next c = c.loop-writer.invariant.next 0 (omega arith)
