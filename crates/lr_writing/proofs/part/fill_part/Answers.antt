use Rattle.std.proofs.Common.{refl}
use Rattle.lr_rules.specs.declared.fault.CallKind.TheVariants as call
use Rattle.lr_rules.specs.declared.fault.Fault.TheVariants as fault
use Rattle.lr_host.proofs.Left.{left_as}
use Rattle.lr_plan.specs.declared.step.Step.TheVariants as step
use Rattle.lr_state.specs.Written.{table_text}
use Rattle.lr_writing.proofs.Coming.{comes_made, comes_failed}
use Rattle.lr_writing.proofs.part.fill_part.Goals as goal

pub returns-in-Ok : goal.returns-in-Ok
returns-in-Ok g c = comes_made (step.Appends c.args.part.now (table_text c.args.table.now)) refl c.in-Ok.ensures.told c.in-Ok.ensures.counts

pub returns-in-Err : goal.returns-in-Err
returns-in-Err g c = comes_failed (step.Appends c.args.part.now (table_text c.args.table.now)) (fault.Call call.Append c.args.part.now) (left_as c.in-Err.ensures.broke (λ ts b. ((refl, b.0), b.1))) c.in-Err.ensures.cause c.in-Err.ensures.counts
