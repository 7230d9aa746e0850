use Rattle.std.proofs.Common.{◌≡◌, ℕ, ◌+◌, ◌++◌, All, None}
use Rattle.lr_nights.specs.Summary.{logs_of}
use Rattle.lr_nights.specs.Opening.{named_logs_from}
use Rattle.lr_nights.proofs.logs.families.Given as goal

abbrev pub invariant-loop-log : goal.invariant-loop-log
invariant-loop-log l = record {
  logs : (left : ℕ) → l.log + left ≡ l.logs → logs_of l.families.items ++ named_logs_from l.log left ≡ named_logs_from 0 l.logs;
  numbered : All (λ f. f.naming.dated ≡ None) l.families.items;
}
