use Rattle.std.proofs.Common.{ℕ, ◌<◌, [], get_or}
use Rattle.lr_rules.specs.Match.{EndsWith}
use Rattle.lr_match.proofs.bars.has_end.Given as goal

abbrev pub invariant-loop-end : goal.invariant-loop-end
invariant-loop-end l = (k : ℕ) → k < l.end-index → EndsWith l.name (get_or l.extensions k []) → ⊥
