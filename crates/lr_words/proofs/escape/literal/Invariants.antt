use Rattle.std.proofs.Common.{◌≡◌, ◌-◌, ◌++◌, drop, length}
use Rattle.lr_rules.specs.Match.{literal_path}
use Rattle.lr_words.proofs.escape.literal.Given as goal

abbrev pub invariant-loop-i : goal.invariant-loop-i
invariant-loop-i l = l.bytes.items ++ literal_path (drop l.i l.word) ≡ literal_path l.word

abbrev pub decreases-loop-i : goal.decreases-loop-i
decreases-loop-i l = length l.word - l.i
