use Rattle.lr_plan.specs.Asked.{asking}
use Rattle.lr_run.proofs.Coming.{goes}
use Rattle.lr_run.proofs.Ending.{went_locked}
use Rattle.lr_run.proofs.Parts.{locked, lacks, goes_not}
use Rattle.std.proofs.Common.{Ok, ap, ◌∙◌}
use Rattle.std.specs.Prelude.{filter}
use Rattle.lr_host.specs.Steps.{is_naming}
use Rattle.lr_host.proofs.Left.{can_as, can_stay}
use Rattle.lr_host.proofs.Known.{left_journal}
use Rattle.lr_host.proofs.Running.{is_on, did_begin}
use Rattle.lr_run.proofs.locked.begin_to_end.Goals as goal

pub work_to_end-requires-clause-disk : goal.work_to_end-requires-clause-disk
work_to_end-requires-clause-disk g c = left_journal (did_begin c.args.settings.now.state c.args.clock.now c.args.rules.now c.in-Ok-true.field-0 c.in-Ok-true.field-0-test c.in-Ok-true.ensures.told) c.requires.disk

pub work_to_end-requires-clause-dir : goal.work_to_end-requires-clause-dir
work_to_end-requires-clause-dir g c = can_stay (can_as c.requires.there (λ n h. h)) (did_begin c.args.settings.now.state c.args.clock.now c.args.rules.now c.in-Ok-true.field-0 c.in-Ok-true.field-0-test c.in-Ok-true.ensures.told) (λ ts h. ap (filter is_naming) h)

pub work_to_end-requires-clause-on : goal.work_to_end-requires-clause-on
work_to_end-requires-clause-on g c = is_on c.args.settings.now.state c.args.clock.now c.args.rules.now (did_begin c.args.settings.now.state c.args.clock.now c.args.rules.now c.in-Ok-true.field-0 c.in-Ok-true.field-0-test c.in-Ok-true.ensures.told)

pub returns-in-Ok-clause-told : goal.returns-in-Ok-clause-told
returns-in-Ok-clause-told g c = goes c.args.settings.now.state (asking c.args.settings.now.force c.args.settings.now.mailer) c.args.clock.now c.args.rules.now c.work_to_end.new.reached c.args.progress.now.faults.items c.work_to_end.new.progress.faults.items
    (did_begin c.args.settings.now.state c.args.clock.now c.args.rules.now c.in-Ok-true.field-0 c.in-Ok-true.field-0-test c.in-Ok-true.ensures.told) c.in-Ok.ensures.told

pub returns-in-Ok-true-clause-stopped : goal.returns-in-Ok-true-clause-stopped
returns-in-Ok-true-clause-stopped g c = lacks c.args.settings.now.state (asking c.args.settings.now.force c.args.settings.now.mailer) c.args.clock.now c.args.rules.now
    (did_begin c.args.settings.now.state c.args.clock.now c.args.rules.now c.in-Ok-true.field-0 c.in-Ok-true.field-0-test c.in-Ok-true.ensures.told) c.in-Err-work_to_end.ensures.some

pub returns-in-Ok-false-clause-stopped : goal.returns-in-Ok-false-clause-stopped
returns-in-Ok-false-clause-stopped g c = locked c.args.settings.now.state (asking c.args.settings.now.force c.args.settings.now.mailer) c.args.clock.now c.args.rules.now c.in-Ok-false.field-0 c.in-Ok-false.field-0-test c.in-Ok-false.ensures.told

pub returns-clause-told : goal.returns-clause-told
returns-clause-told g c = goes_not c.args.settings.now.state (asking c.args.settings.now.force c.args.settings.now.mailer) c.args.clock.now c.args.rules.now c.args.reached.now c.args.name c.args.progress.now.faults.items c.add_not_begun.new.faults.items c.requires.none c.requires.name c.add_not_begun.ensures.faults c.in-Err.ensures.told

pub returns-in-Ok-clause-went : goal.returns-in-Ok-clause-went
returns-in-Ok-clause-went g c = went_locked c.args.progress.now.faults.items c.work_to_end.new.progress.faults.items _ _ _ c.begin.ensures.counts (c.begin.ensures.lock (c.in-Ok-true.is ∙ ap Ok c.in-Ok-true.field-0-test)).0 c.in-Ok.ensures.counted c.in-Ok.ensures.counts c.in-Ok.ensures.lock
