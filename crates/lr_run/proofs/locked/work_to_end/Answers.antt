use Rattle.lr_plan.specs.Asked.{asking}
use Rattle.lr_run.proofs.Coming.{work_ended}
use Rattle.lr_run.proofs.Ending.{end_there, work_lacked, adds_wider}
use Rattle.lr_run.proofs.locked.work_to_end.Goals as goal

pub end-requires : goal.end-requires
end-requires g c = end_there c.work-done.result c.args.settings.now.state c.args.rules.now.sets c.args.clock.now (asking c.args.settings.now.force c.args.settings.now.mailer) c.work-done.new.reached c.args.progress.now.faults.items c.work-done.new.progress.faults.items _ _ c.work-done.ensures.told c.work-done.ensures.some c.requires.on

pub returns-clause-told : goal.returns-clause-told
returns-clause-told g c = work_ended c.work-done.result c.args.settings.now.state c.args.rules.now.sets c.args.clock.now (asking c.args.settings.now.force c.args.settings.now.mailer) c.work-done.new.reached c.args.progress.now.faults.items c.work-done.new.progress.faults.items _ c.work-done.ensures.told c.end.ensures.told

pub returns-clause-some : goal.returns-clause-some
returns-clause-some g c = work_lacked c.work-done.result _ _ _ _ _ c.work-done.ensures.some c.end.ensures.told

pub returns-clause-counted : goal.returns-clause-counted
returns-clause-counted g c = adds_wider c.work-done.result c.args.progress.now.faults.items c.work-done.new.progress.faults.items _ _ _ c.end.ensures.counts c.work-done.ensures.went
