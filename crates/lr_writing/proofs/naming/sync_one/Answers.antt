use Rattle.std.proofs.Common.{refl}
use Rattle.lr_rules.specs.declared.fault.CallKind.TheVariants as call
use Rattle.lr_rules.specs.declared.fault.Fault.TheVariants as fault
use Rattle.lr_host.specs.declared.entry.Entry.TheVariants as entry
use Rattle.lr_plan.specs.declared.step.Step.TheVariants as step
use Rattle.lr_writing.proofs.Coming.{comes_one, comes_not}
use Rattle.lr_writing.proofs.naming.sync_one.Goals as goal

pub returns-in-Ok : goal.returns-in-Ok
returns-in-Ok g c = let x = c.args.dir in comes_one (step.SyncsDir x) (entry.SyncsDir x) refl (λ ts t. t) tt c.in-Ok.ensures.told c.in-Ok.ensures.counts

pub returns-in-Err : goal.returns-in-Err
returns-in-Err g c = let x = c.args.dir in comes_not (step.SyncsDir x) (fault.Call call.Sync x) (entry.SyncsDir x) (λ ts t. (refl, t)) tt c.in-Err.ensures.told c.in-Err.ensures.cause c.in-Err.ensures.counts
