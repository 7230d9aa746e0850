use Rattle.std.proofs.Common.{ℕ, ◌<◌, [], true, get_or}
use Rattle.std.specs.Str.{chars}
use Rattle.lr_rules.specs.Match.{Matches}
use Rattle.lr_match.proofs.bars.has_match.Given as goal

abbrev pub invariant-loop-pattern : goal.invariant-loop-pattern
invariant-loop-pattern l = (k : ℕ) → k < l.pattern-index → Matches true (chars (get_or l.patterns k [])) (chars l.name) → ⊥
