use Rattle.std.proofs.Common.{◌∙◌, Ok, Err, ap}
use Rattle.lr_host.proofs.Counts.{went_behind}
use Rattle.lr_plan.specs.Asked.{asking}
use Rattle.lr_run.proofs.Trying.{planned_by, not_planned, some_planned, none_read, some_read}
use Rattle.lr_run.proofs.Works.{unknown_counted}
use Rattle.lr_run.proofs.dry.read_and_plan.Goals as goal

pub returns-in_err-part-clause-some : goal.returns-in_err-part-clause-some
returns-in_err-part-clause-some g c = none_read c.from_residual.result c.args.settings.now.state c.args.rules.now.sets _

pub returns-in_err-remembered-clause-some : goal.returns-in_err-remembered-clause-some
returns-in_err-remembered-clause-some g c = some_read c.from_residual-in_err-remembered.result c.args.settings.now.state c.args.rules.now.sets _ c.in_err-remembered.ensures.told

pub returns-in-Ok-clause-told : goal.returns-in-Ok-clause-told
returns-in-Ok-clause-told g c = planned_by c.look_and_plan.result c.args.settings.now.state c.args.rules.now.sets c.in-Ok.remembered c.args.clock.now (asking c.args.settings.now.force c.args.settings.now.mailer) c.args.faults.now.items c.look_and_plan.new.faults.items _ (rw c.in-Ok.is at c.in_ok-remembered.ensures.told) c.look_and_plan.ensures.told

pub returns-in-Ok-clause-some : goal.returns-in-Ok-clause-some
returns-in-Ok-clause-some g c = some_planned c.look_and_plan.result c.args.settings.now.state c.args.rules.now.sets c.in-Ok.remembered _ (rw c.in-Ok.is at c.in_ok-remembered.ensures.told) c.look_and_plan.ensures.some

pub returns-in-Ok-clause-went : goal.returns-in-Ok-clause-went
returns-in-Ok-clause-went g c = went_behind c.look_and_plan.result c.args.faults.now.items c.look_and_plan.new.faults.items _ _ _ c.in_ok-remembered.ensures.counts c.look_and_plan.ensures.went

pub returns-clause-told : goal.returns-clause-told
returns-clause-told g c = not_planned c.args.settings.now.state c.args.rules.now.sets c.args.clock.now (asking c.args.settings.now.force c.args.settings.now.mailer) c.in-Err.fault c.args.faults.now.items c.add_fault.new.faults.items (rw c.in-Err.is at c.in_ok-remembered.ensures.told) c.add_fault.ensures.faults

pub returns-clause-went : goal.returns-clause-went
returns-clause-went g c = record {
  adds = unknown_counted c.args.settings.now.state c.in-Err.fault c.args.faults.now.items c.add_fault.new.faults.items _ _ c.add_fault.ensures.faults (c.in_ok-remembered.ensures.only c.in-Err.fault (ap Ok c.in-Err.is)) (λ kind path is. c.in_ok-remembered.ensures.counted kind path (ap Ok (c.in-Err.is ∙ ap Err is))) c.in_ok-remembered.ensures.counts.0;
  onward = c.in_ok-remembered.ensures.counts;
}
