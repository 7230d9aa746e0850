use Rattle.std.proofs.Common.{◌≡◌, ℕ, ◌+◌}
use Rattle.lr_nights.specs.Draws.{behind_logs}
use Rattle.lr_nights.proofs.month.pass_logs.Given as goal

abbrev pub invariant-loop-log : goal.invariant-loop-log
invariant-loop-log l = (left : ℕ) → l._log + left ≡ l.logs → behind_logs left l.x ≡ behind_logs l.logs l.initial.x
