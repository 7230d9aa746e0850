use Rattle.std.proofs.Common.{refl, sym, subst, Err}
use Rattle.lr_rules.specs.declared.fault.Fault.{Fault}
use Rattle.lr_host.specs.Told.{Left}
use Rattle.lr_host.proofs.Left.{left_as}
use Rattle.lr_plan.specs.declared.step.Step.TheVariants as step
use Rattle.lr_acts.specs.declared.stop.Stop.TheVariants as stop
use Rattle.lr_acts.specs.Making.{StepLeft, FaultCause}
use Rattle.lr_acts.proofs.Copies.{bytes_caused}
use Rattle.lr_acts.proofs.bytes.copy_file.Goals as goal

pub returns-in-Ok-clause-told : goal.returns-in-Ok-clause-told
returns-in-Ok-clause-told g c = left_as c.in-Ok.ensures.told (λ ts h. (c.in-Ok._count, h))

pub returns-in-Err-clause-told : goal.returns-in-Err-clause-told
returns-in-Err-clause-told g c =
    subst (λ (f : Fault). Left (StepLeft (step.Copies c.args.from c.args.to c.args.limit) (Err (stop.Fault f))) (g.H.Host.told c.args.host.now) (g.H.Host.told c.copy_bytes.new.host)) (sym c.bytes_fault.ensures)
    (left_as c.in-Err.ensures.refused (λ ts h. (c.in-Err.why, refl, h)))

pub returns-in-Err-clause-cause : goal.returns-in-Err-clause-cause
returns-in-Err-clause-cause g c =
    subst (λ (f : Fault). FaultCause f (g.H.Host.counts c.args.host.now) (g.H.Host.counts c.copy_bytes.new.host) (g.H.Host.told c.args.host.now) (g.H.Host.told c.copy_bytes.new.host)) (sym c.bytes_fault.ensures)
    (bytes_caused c.args.from c.args.to c.in-Err.why _ _ _ _ c.in-Err.ensures.cause)
