use Rattle.std.proofs.Common.{rules, map}
use Rattle.std.specs.List.{concat}
use Rattle.lr_report.specs.Lines.{line, fault_text}
use Rattle.lr_report.proofs.PutLemmas.{took_value, part_value, part_whole, all_values}
use Rattle.lr_report.proofs.lines.put_faults.Goals as goal

pub returns-in_err-put_fault-clause-part : goal.returns-in_err-put_fault-clause-part
returns-in_err-put_fault-clause-part g c =
    part_value (λ f. line (fault_text f)) c.args.faults.now c.loop-fault.fault-index c.fault-item.result _ _ _ c.fault-item.is c.loop-fault-test.true c.loop-fault.invariant.taken c.put_fault.ensures.part

pub loop-fault-preserved : goal.loop-fault-preserved
loop-fault-preserved g c = record {
  taken = took_value (λ f. line (fault_text f)) c.args.faults.now c.loop-fault.fault-index c.fault-item.result _ _ _ c.fault-item.is c.loop-fault-test.true c.loop-fault.invariant.taken c.in_ok-put_fault.ensures.whole;
  counts = search rules;
}

pub returns-clause-part : goal.returns-clause-part
returns-clause-part g c = part_whole (concat (map (λ x. line (fault_text x)) c.args.faults.now)) (g.K.Sink.taken c.args.out.now) (g.K.Sink.taken c.loop-fault.out) (all_values (λ x. line (fault_text x)) c.args.faults.now c.loop-fault.fault-index _ _ (search (rules, c.loop-fault-test.false)) c.loop-fault.invariant.taken)
