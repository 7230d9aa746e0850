use Rattle.std.proofs.Common.{◌≡◌, ℕ, ◌+◌, ◌++◌}
use Rattle.lr_nights.specs.Draws.{behind_logs}
use Rattle.lr_nights.specs.Month.{feeds_from}
use Rattle.lr_nights.proofs.month.draw_feeds.Given as goal

abbrev pub invariant-loop-writer : goal.invariant-loop-writer
invariant-loop-writer l = record {
  feeds : (left : ℕ) → l.writer + left ≡ l.logs → l.feeds ++ feeds_from l.writer left l.at l.x ≡ feeds_from 0 l.logs l.at l.initial.x;
  next : (left : ℕ) → l.writer + left ≡ l.logs → behind_logs left l.x ≡ behind_logs l.logs l.initial.x;
}
