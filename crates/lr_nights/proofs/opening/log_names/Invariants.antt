use Rattle.std.proofs.Common.{◌≡◌, ℕ, ◌+◌, ◌++◌}
use Rattle.lr_nights.specs.Opening.{log_names_from}
use Rattle.lr_nights.proofs.opening.log_names.Given as goal

abbrev pub invariant-loop-log : goal.invariant-loop-log
invariant-loop-log l = (left : ℕ) → l.log + left ≡ l.logs → l.names.items ++ log_names_from l.log left ≡ log_names_from 0 l.logs
