use Rattle.std.proofs.Common.{Ok, take}
use Rattle.std.specs.List.{flat_map}
use Rattle.lr_shown.specs.Puts.{Puts}
use Rattle.lr_audit.specs.Text.{line_text}
use Rattle.lr_audit.proofs.text.put_lines.Given as goal

abbrev pub invariant-loop-line : goal.invariant-loop-line
invariant-loop-line g l = Puts (flat_map line_text (take l.line-index l.lines)) (Ok tt) (g.K.Sink.taken l.initial.out) (g.K.Sink.taken l.out) (g.K.Sink.faults l.initial.out) (g.K.Sink.faults l.out)
