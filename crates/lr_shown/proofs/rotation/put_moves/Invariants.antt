use Rattle.std.proofs.Common.{Ok, take}
use Rattle.std.specs.List.{flat_map}
use Rattle.lr_plan.specs.Steps.{move}
use Rattle.lr_shown.specs.Lines.{step_line}
use Rattle.lr_shown.specs.Puts.{Puts}
use Rattle.lr_shown.proofs.rotation.put_moves.Given as goal

abbrev pub invariant-loop-one : goal.invariant-loop-one
invariant-loop-one g l = Puts (flat_map (λ one. step_line (move one)) (take l.one-index l.moves)) (Ok tt) (g.K.Sink.taken l.initial.out) (g.K.Sink.taken l.out) (g.K.Sink.faults l.initial.out) (g.K.Sink.faults l.out)
