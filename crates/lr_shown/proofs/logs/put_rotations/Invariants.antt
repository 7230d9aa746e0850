use Rattle.std.proofs.Common.{Ok, take}
use Rattle.std.specs.List.{flat_map}
use Rattle.lr_plan.specs.Steps.{rotation_of}
use Rattle.lr_shown.specs.Lines.{lines_of}
use Rattle.lr_shown.specs.Puts.{Puts}
use Rattle.lr_shown.proofs.logs.put_rotations.Given as goal

abbrev pub invariant-loop-log : goal.invariant-loop-log
invariant-loop-log g l = Puts (flat_map (λ log. lines_of (rotation_of log)) (take l.log-index l.logs)) (Ok tt) (g.K.Sink.taken l.initial.out) (g.K.Sink.taken l.out) (g.K.Sink.faults l.initial.out) (g.K.Sink.faults l.out)
