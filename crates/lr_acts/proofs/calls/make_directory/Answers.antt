use Rattle.std.proofs.Common.{refl, sym, subst, Err}
use Rattle.lr_rules.specs.declared.fault.Fault.{Fault}
use Rattle.lr_host.specs.Told.{Left}
use Rattle.lr_host.proofs.Left.{left_as}
use Rattle.lr_plan.specs.declared.step.Step.TheVariants as step
use Rattle.lr_acts.specs.declared.stop.Stop.TheVariants as stop
use Rattle.lr_acts.specs.Making.{StepLeft, FaultCause}
use Rattle.lr_acts.proofs.Dirs.{dir_caused}
use Rattle.lr_acts.proofs.calls.make_directory.Goals as goal

pub returns-in-Err-clause-told : goal.returns-in-Err-clause-told
returns-in-Err-clause-told g c =
    subst (λ (f : Fault). Left (StepLeft (step.MakesDir c.args.path c.args.mode) (Err (stop.Fault f))) (g.H.Host.told c.args.host.now) (g.H.Host.told c.make_directory.new.host)) (sym c.dir_fault.ensures)
    (left_as c.in-Err.ensures.refused (λ ts h. (c.in-Err.why, refl, h)))

pub returns-in-Err-clause-cause : goal.returns-in-Err-clause-cause
returns-in-Err-clause-cause g c =
    subst (λ (f : Fault). FaultCause f (g.H.Host.counts c.args.host.now) (g.H.Host.counts c.make_directory.new.host) (g.H.Host.told c.args.host.now) (g.H.Host.told c.make_directory.new.host)) (sym c.dir_fault.ensures)
    (dir_caused c.args.path c.in-Err.why _ _ _ _ c.in-Err.ensures.cause)
