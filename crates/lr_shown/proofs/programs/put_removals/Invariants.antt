use Rattle.std.proofs.Common.{Ok, take}
use Rattle.std.specs.List.{flat_map}
use Rattle.lr_plan.specs.Steps.{removal}
use Rattle.lr_shown.specs.Lines.{lines_of}
use Rattle.lr_shown.specs.Puts.{Puts}
use Rattle.lr_shown.proofs.programs.put_removals.Given as goal

abbrev pub invariant-loop-file : goal.invariant-loop-file
invariant-loop-file g l = Puts (flat_map (λ file. lines_of (removal file)) (take l.file-index l.files)) (Ok tt) (g.K.Sink.taken l.initial.out) (g.K.Sink.taken l.out) (g.K.Sink.faults l.initial.out) (g.K.Sink.faults l.out)
