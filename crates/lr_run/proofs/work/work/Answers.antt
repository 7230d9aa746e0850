use Rattle.std.proofs.Common.{◌∙◌, Ok, Err, ap}
use Rattle.lr_host.proofs.Counts.{went_behind}
use Rattle.lr_plan.specs.Asked.{asking}
use Rattle.lr_run.proofs.Coming.{known_done, unknown_done}
use Rattle.lr_run.proofs.Works.{none_seen, some_read, behind_state, unknown_counted}
use Rattle.lr_run.proofs.work.work.Goals as goal

pub returns-in_err-part-clause-some : goal.returns-in_err-part-clause-some
returns-in_err-part-clause-some g c = none_seen c.from_residual.result c.args.settings.now.state c.args.rules.now.sets c.args.clock.now (asking c.args.settings.now.force c.args.settings.now.mailer) _

pub returns-in_err-remembered-clause-some : goal.returns-in_err-remembered-clause-some
returns-in_err-remembered-clause-some g c = some_read c.from_residual-in_err-remembered.result c.args.settings.now.state c.args.rules.now.sets c.args.clock.now (asking c.args.settings.now.force c.args.settings.now.mailer) _ c.in_err-remembered.ensures.told

pub look_and_act-requires-clause-known : goal.look_and_act-requires-clause-known
look_and_act-requires-clause-known g c = record { before = _; disk = c.requires.disk; there = c.requires.dir; read = rw c.in-Ok.is at c.in_ok-remembered.ensures.told }

pub returns-in-Ok-clause-told : goal.returns-in-Ok-clause-told
returns-in-Ok-clause-told g c = known_done c.look_and_act.result c.args.settings.now.state c.args.rules.now.sets c.args.clock.now (asking c.args.settings.now.force c.args.settings.now.mailer) c.in-Ok.remembered c.look_and_act.new.reached c.args.progress.now.faults.items c.look_and_act.new.progress.faults.items _ (rw c.in-Ok.is at c.in_ok-remembered.ensures.told) c.look_and_act.ensures.told

pub returns-in-Ok-clause-some : goal.returns-in-Ok-clause-some
returns-in-Ok-clause-some g c = behind_state c.look_and_act.result c.args.settings.now.state c.args.rules.now.sets c.args.clock.now (asking c.args.settings.now.force c.args.settings.now.mailer) c.in-Ok.remembered _ (rw c.in-Ok.is at c.in_ok-remembered.ensures.told) c.look_and_act.ensures.some

pub returns-in-Err-clause-told : goal.returns-in-Err-clause-told
returns-in-Err-clause-told g c = unknown_done c.args.settings.now.state c.args.rules.now.sets c.args.clock.now (asking c.args.settings.now.force c.args.settings.now.mailer) c.args.reached.now c.in-Err.fault c.args.progress.now.faults.items c.add_fault.new.faults.items c.requires.none (rw c.in-Err.is at c.in_ok-remembered.ensures.told) c.add_fault.ensures.faults

pub returns-in-Ok-clause-went : goal.returns-in-Ok-clause-went
returns-in-Ok-clause-went g c = went_behind c.look_and_act.result c.args.progress.now.faults.items c.look_and_act.new.progress.faults.items _ _ _ c.in_ok-remembered.ensures.counts c.look_and_act.ensures.went

pub returns-in-Err-clause-went : goal.returns-in-Err-clause-went
returns-in-Err-clause-went g c = record {
  adds = unknown_counted c.args.settings.now.state c.in-Err.fault c.args.progress.now.faults.items c.add_fault.new.faults.items _ _ c.add_fault.ensures.faults (c.in_ok-remembered.ensures.only c.in-Err.fault (ap Ok c.in-Err.is)) (λ kind path is. c.in_ok-remembered.ensures.counted kind path (ap Ok (c.in-Err.is ∙ ap Err is))) c.in_ok-remembered.ensures.counts.0;
  onward = c.in_ok-remembered.ensures.counts;
}
