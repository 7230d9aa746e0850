use Rattle.std.proofs.Common.{length, take, ◌-◌, ◌≤◌}
use Rattle.lr_report.specs.Puts.{Took}
use Rattle.lr_report.proofs.put.put_one.Given as goal

abbrev pub invariant-loop-at : goal.invariant-loop-at
invariant-loop-at g l = record {
  within : l.at ≤ length l.text;
  taken : Took (take l.at l.text) (g.K.Sink.taken l.initial.out) (g.K.Sink.taken l.out);
  counts : g.K.Sink.faults l.initial.out ≤ g.K.Sink.faults l.out;
}

abbrev pub decreases-loop-at : goal.decreases-loop-at
decreases-loop-at g l = length l.text - l.at
