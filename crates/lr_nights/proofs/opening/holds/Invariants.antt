use Rattle.std.proofs.Common.{◌≡◌, ℕ, ◌+◌, ◌++◌}
use Rattle.lr_nights.specs.Opening.{holds_from}
use Rattle.lr_nights.proofs.opening.holds.Given as goal

abbrev pub invariant-loop-log : goal.invariant-loop-log
invariant-loop-log l = (left : ℕ) → l.log + left ≡ l.logs → l.holds.items ++ holds_from l.log left ≡ holds_from 0 l.logs
