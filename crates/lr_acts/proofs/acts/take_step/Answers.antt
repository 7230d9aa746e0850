use Rattle.std.proofs.Common.{None, Some, [], ◌∷◌}
use Rattle.lr_acts.proofs.Adding.{step_made, step_failed, adds_nothing, no_more, no_fault}
use Rattle.lr_acts.proofs.acts.take_step.Goals as goal

pub returns-in-Ok-None-clause-told : goal.returns-in-Ok-None-clause-told
returns-in-Ok-None-clause-told g c =
    step_made c.args.step None c.args.progress.now _ (rw c.in-Ok-None.field-0-is at c.in-Ok-None.ensures.marks) (no_more c.args.progress.now) (no_fault c.args.progress.now)
    c.in-Ok-None.ensures.told (rw c.in-Ok-None.field-0-is at rw c.in-Ok-None.is at c.make.ensures.named) c.make.ensures.counts

pub returns-in-Ok-Some-clause-told : goal.returns-in-Ok-Some-clause-told
returns-in-Ok-Some-clause-told g c =
    step_made c.args.step (Some c.in-Ok-Some.mark) c.args.progress.now c.add_mark.new.progress (rw c.in-Ok-Some.field-0-is at c.in-Ok-Some.ensures.marks) c.add_mark.ensures.marks c.add_mark.ensures.faults
    c.in-Ok-Some.ensures.told (rw c.in-Ok-Some.field-0-is at rw c.in-Ok-Some.is at c.make.ensures.named) c.make.ensures.counts

pub returns-in-Err-Fault-clause-told : goal.returns-in-Err-Fault-clause-told
returns-in-Err-Fault-clause-told g c =
    step_failed c.args.step c.in-Err-Fault.fault c.args.progress.now c.add_fault.new.progress c.add_fault.ensures.marks c.add_fault.ensures.faults (rw c.in-Err-Fault.field-0-is at c.in-Err-Fault.ensures.told)
    (rw c.in-Err-Fault.field-0-is at c.in-Err-Fault.ensures.cause) c.make.ensures.counts

pub returns-in-Err-Memory-clause-told : goal.returns-in-Err-Memory-clause-told
returns-in-Err-Memory-clause-told g c = adds_nothing (c.args.step ∷ []) c.args.progress.now _ (no_more c.args.progress.now) (no_fault c.args.progress.now) (rw c.in-Err-Memory.field-0-is at c.in-Err-Memory.ensures.told) c.make.ensures.counts
