use Rattle.std.proofs.Common.{refl}
use Rattle.lr_rules.specs.declared.fault.CallKind.TheVariants as call
use Rattle.lr_rules.specs.declared.fault.Fault.TheVariants as fault
use Rattle.lr_host.specs.declared.entry.Entry.TheVariants as entry
use Rattle.lr_plan.specs.declared.step.Step.TheVariants as step
use Rattle.lr_writing.proofs.Coming.{comes_one, comes_not}
use Rattle.lr_writing.proofs.naming.rename_part.Goals as goal

pub returns-in-Ok : goal.returns-in-Ok
returns-in-Ok g c = let x = c.args.part in let y = c.args.state.now in comes_one (step.Renames x y) (entry.Renames x y) refl (λ ts t. t) tt c.in-Ok.ensures.told c.in-Ok.ensures.counts

pub returns-in-Err : goal.returns-in-Err
returns-in-Err g c = let x = c.args.part in let y = c.args.state.now in comes_not (step.Renames x y) (fault.Call call.Rename x) (entry.Renames x y) (λ ts t. (refl, t)) tt c.in-Err.ensures.told c.in-Err.ensures.cause c.in-Err.ensures.counts
