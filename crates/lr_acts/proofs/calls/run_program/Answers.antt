use Rattle.std.proofs.Common.{sym, subst, Err}
use Rattle.lr_host.specs.Told.{Left}
use Rattle.lr_host.proofs.Left.{left_as}
use Rattle.lr_plan.specs.declared.step.Step.TheVariants as step
use Rattle.lr_acts.specs.Making.{StepLeft}
use Rattle.lr_acts.proofs.Programs.{program_made}
use Rattle.lr_acts.proofs.calls.run_program.Goals as goal

pub returns-in-Err-clause-told : goal.returns-in-Err-clause-told
returns-in-Err-clause-told g c =
    subst (λ why. Left (StepLeft (step.Runs c.args.phase c.args.on c.args.command) (Err why)) (g.H.Host.told c.args.host.now) (g.H.Host.told c.run_phase.new.host)) (sym c.program_fault.ensures)
    (left_as c.in-Err.ensures.refused (λ ts r. program_made c.args.phase c.args.on c.args.command c.in-Err.why (g.H.Host.counts c.args.host.now) (g.H.Host.counts c.run_phase.new.host) ts c.in-Err.ensures.cause r))
