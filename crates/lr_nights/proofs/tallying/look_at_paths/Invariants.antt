use Rattle.std.proofs.Common.{◌≡◌, ℕ, ◌<◌, None, get_or}
use Rattle.lr_rules.specs.Path.{path_fault}
use Rattle.lr_family.specs.declared.family.Family.{Family}
use Rattle.lr_nights.proofs.tallying.look_at_paths.Given as goal

abbrev pub invariant-loop-log : goal.invariant-loop-log
invariant-loop-log l = (k : ℕ) (d : Family) → k < l.log-index → path_fault (get_or l.logs k d).log ≡ None
