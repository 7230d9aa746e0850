use Rattle.std.proofs.Common.{take}
use Rattle.lr_audited.specs.Lines.{AreLines}
use Rattle.lr_audited.proofs.knowing.lines_for.Given as goal

abbrev pub invariant-loop-file : goal.invariant-loop-file
invariant-loop-file l = record { lines : AreLines l.known.lines.items (take l.file-index l.files) l.lines.items }
