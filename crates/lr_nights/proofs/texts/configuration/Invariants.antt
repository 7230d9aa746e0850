use Rattle.std.proofs.Common.{◌≡◌, ℕ, ◌+◌, ◌++◌}
use Rattle.lr_nights.specs.Opening.{definitions_from}
use Rattle.lr_nights.proofs.texts.configuration.Given as goal

abbrev pub invariant-loop-log : goal.invariant-loop-log
invariant-loop-log l = (left : ℕ) → l.log + left ≡ l.logs → l.text.items ++ definitions_from l.log left l.x ≡ definitions_from 0 l.logs l.logs
