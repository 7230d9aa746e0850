use Rattle.std.proofs.Common.{Ok, take}
use Rattle.std.specs.List.{flat_map}
use Rattle.lr_shown.specs.Lines.{decision_line}
use Rattle.lr_shown.specs.Puts.{Puts}
use Rattle.lr_shown.proofs.decisions.put_decisions.Given as goal

abbrev pub invariant-loop-decision : goal.invariant-loop-decision
invariant-loop-decision g l = Puts (flat_map decision_line (take l.decision-index l.decisions)) (Ok tt) (g.K.Sink.taken l.initial.out) (g.K.Sink.taken l.out) (g.K.Sink.faults l.initial.out) (g.K.Sink.faults l.out)
