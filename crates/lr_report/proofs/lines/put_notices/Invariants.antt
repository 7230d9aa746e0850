use Rattle.std.proofs.Common.{map, take, ◌≤◌}
use Rattle.std.specs.List.{concat}
use Rattle.lr_report.specs.Puts.{Took}
use Rattle.lr_report.specs.Lines.{line, notice_text}
use Rattle.lr_report.proofs.lines.put_notices.Given as goal

abbrev pub invariant-loop-notice : goal.invariant-loop-notice
invariant-loop-notice g l = record {
  taken : Took (concat (map (λ n. line (notice_text n)) (take l.notice-index l.notices))) (g.K.Sink.taken l.initial.out) (g.K.Sink.taken l.out);
  counts : g.K.Sink.faults l.initial.out ≤ g.K.Sink.faults l.out;
}
