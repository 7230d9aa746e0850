use Rattle.std.proofs.Common.{◌≡◌, ◌++◌, take}
use Rattle.lr_audited.specs.Lines.{rule_lines}
use Rattle.lr_audited.proofs.lines.add_set.Given as goal

abbrev pub invariant-loop-look : goal.invariant-loop-look
invariant-loop-look l = record { lines : l.lines.items ≡ l.initial.lines.items ++ rule_lines l.rule (take l.look-index l.looks) }
