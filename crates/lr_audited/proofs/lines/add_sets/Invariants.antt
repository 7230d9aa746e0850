use Rattle.std.proofs.Common.{◌≡◌, ◌++◌, take}
use Rattle.lr_audited.specs.Lines.{sets_lines}
use Rattle.lr_audited.proofs.lines.add_sets.Given as goal

abbrev pub invariant-loop-at : goal.invariant-loop-at
invariant-loop-at l = record { lines : l.lines.items ≡ l.initial.lines.items ++ sets_lines (take l.at l.rules) (take l.at l.sets) }
