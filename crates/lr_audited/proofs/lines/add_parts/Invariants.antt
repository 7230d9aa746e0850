use Rattle.std.proofs.Common.{◌≡◌, ◌++◌, map, take}
use Rattle.lr_audited.specs.Lines.{part_line}
use Rattle.lr_audited.proofs.lines.add_parts.Given as goal

abbrev pub invariant-loop-part : goal.invariant-loop-part
invariant-loop-part l = record { lines : l.lines.items ≡ l.initial.lines.items ++ map (part_line l.log) (take l.part-index l.parts) }
