use Rattle.std.proofs.Common.{Ok, take}
use Rattle.std.specs.List.{flat_map}
use Rattle.lr_shown.specs.Puts.{Puts}
use Rattle.lr_audit.specs.Text.{gap_text}
use Rattle.lr_audit.proofs.text.put_gaps.Given as goal

abbrev pub invariant-loop-gap : goal.invariant-loop-gap
invariant-loop-gap g l = Puts (flat_map gap_text (take l.gap-index l.gaps)) (Ok tt) (g.K.Sink.taken l.initial.out) (g.K.Sink.taken l.out) (g.K.Sink.faults l.initial.out) (g.K.Sink.faults l.out)
