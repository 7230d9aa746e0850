use Rattle.std.proofs.Common.{◌≡◌, ℕ, ◌+◌, ◌++◌}
use Rattle.lr_nights.specs.Opening.{state_lines_from}
use Rattle.lr_nights.proofs.texts.add_state_lines.Given as goal

abbrev pub invariant-loop-log : goal.invariant-loop-log
invariant-loop-log l = (left : ℕ) → l.log + left ≡ l.logs → l.text.items ++ state_lines_from l.log left ≡ l.initial.text.items ++ state_lines_from 0 l.logs
