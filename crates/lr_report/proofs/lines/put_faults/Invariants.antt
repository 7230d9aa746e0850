use Rattle.std.proofs.Common.{map, take, ◌≤◌}
use Rattle.std.specs.List.{concat}
use Rattle.lr_report.specs.Puts.{Took}
use Rattle.lr_report.specs.Lines.{line, fault_text}
use Rattle.lr_report.proofs.lines.put_faults.Given as goal

abbrev pub invariant-loop-fault : goal.invariant-loop-fault
invariant-loop-fault g l = record {
  taken : Took (concat (map (λ f. line (fault_text f)) (take l.fault-index l.faults))) (g.K.Sink.taken l.initial.out) (g.K.Sink.taken l.out);
  counts : g.K.Sink.faults l.initial.out ≤ g.K.Sink.faults l.out;
}
