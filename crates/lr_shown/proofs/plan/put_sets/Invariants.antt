use Rattle.std.proofs.Common.{Ok, take}
use Rattle.std.specs.List.{flat_map}
use Rattle.lr_plan.specs.Steps.{steps_of_set}
use Rattle.lr_shown.specs.Lines.{set_lines}
use Rattle.lr_shown.specs.Puts.{Puts}
use Rattle.lr_shown.proofs.plan.put_sets.Given as goal

abbrev pub invariant-loop-set : goal.invariant-loop-set
invariant-loop-set g l = Puts (flat_map (λ set. set_lines (steps_of_set set)) (take l.set-index l.sets)) (Ok tt) (g.K.Sink.taken l.initial.out) (g.K.Sink.taken l.out) (g.K.Sink.faults l.initial.out) (g.K.Sink.faults l.out)
