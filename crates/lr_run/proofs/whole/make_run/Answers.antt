use Rattle.std.proofs.Common.{true, false, Ok, Err, ap, ◌∙◌, subst}
use Rattle.lr_host.specs.Fits.{IsDirectoryAt}
use Rattle.lr_host.proofs.Counts.{went_behind}
use Rattle.lr_host.proofs.Left.{can_as}
use Rattle.lr_host.proofs.Known.{left_journal}
use Rattle.lr_family.specs.declared.directory.DirStop.TheVariants as dir
use Rattle.lr_family.proofs.Whole.{seen_as}
use Rattle.lr_plan.specs.Asked.{asking}
use Rattle.lr_run.proofs.Ending.{dir_went}
use Rattle.lr_run.proofs.Parts.{behind_dir, stopped_behind, nothing_there, no_dir}
use Rattle.lr_run.proofs.whole.make_run.Goals as goal

pub begin_to_end-requires-clause-disk : goal.begin_to_end-requires-clause-disk
begin_to_end-requires-clause-disk g c = left_journal (seen_as c.args.names.dir c.in-Ok-true.field-0 true c.in-Ok-true.field-0-test c.in-Ok-true.ensures.told) c.requires.disk

pub begin_to_end-requires-clause-there : goal.begin_to_end-requires-clause-there
begin_to_end-requires-clause-there g c = can_as (c.look_for_dir.ensures.list (c.in-Ok-true.is ∙ ap Ok c.in-Ok-true.field-0-test)) (λ n h. subst (IsDirectoryAt n) c.requires.dir h)

pub returns-in-Ok-true-clause-told : goal.returns-in-Ok-true-clause-told
returns-in-Ok-true-clause-told g c = behind_dir c.args.settings.now.state (asking c.args.settings.now.force c.args.settings.now.mailer) c.args.clock.now c.args.rules.now c.args.progress.now.faults.items (record { plan = c.begin_to_end.new.reached; faults = c.begin_to_end.new.progress.faults }) c.args.names.dir c.begin_to_end.result _ c.requires.dir
    (seen_as c.args.names.dir c.in-Ok-true.field-0 true c.in-Ok-true.field-0-test c.in-Ok-true.ensures.told) c.begin_to_end.ensures.told

pub returns-in-Ok-true-clause-stopped : goal.returns-in-Ok-true-clause-stopped
returns-in-Ok-true-clause-stopped g c = stopped_behind c.args.settings.now.state (asking c.args.settings.now.force c.args.settings.now.mailer) c.args.clock.now c.args.rules.now c.args.names.dir c.begin_to_end.result _ c.requires.dir
    (seen_as c.args.names.dir c.in-Ok-true.field-0 true c.in-Ok-true.field-0-test c.in-Ok-true.ensures.told) c.begin_to_end.ensures.stopped

pub returns-in-Ok-true-clause-went : goal.returns-in-Ok-true-clause-went
returns-in-Ok-true-clause-went g c = went_behind c.begin_to_end.result c.args.progress.now.faults.items c.begin_to_end.new.progress.faults.items _ _ _ c.in-Ok-true.ensures.counts c.begin_to_end.ensures.went

pub returns-in-Ok-false-clause-told : goal.returns-in-Ok-false-clause-told
returns-in-Ok-false-clause-told g c = nothing_there c.args.settings.now.state (asking c.args.settings.now.force c.args.settings.now.mailer) c.args.clock.now c.args.rules.now c.args.progress.now.faults.items (record { plan = c.args.reached.now; faults = c.add_dir_fault.new.faults }) c.args.names.dir c.requires.none c.requires.dir c.add_dir_fault.ensures.faults
    (seen_as c.args.names.dir c.in-Ok-false.field-0 false c.in-Ok-false.field-0-test c.in-Ok-false.ensures.told)

pub returns-in-Ok-false-clause-went : goal.returns-in-Ok-false-clause-went
returns-in-Ok-false-clause-went g c = dir_went dir.NotDir c.args.names.dir c.args.progress.now.faults.items c.add_dir_fault.new.faults.items _ _ c.add_dir_fault.ensures.faults (λ e. absurd (cc)) c.in-Ok-false.ensures.counts

pub returns-in-Err-clause-told : goal.returns-in-Err-clause-told
returns-in-Err-clause-told g c = no_dir c.args.settings.now.state (asking c.args.settings.now.force c.args.settings.now.mailer) c.args.clock.now c.args.rules.now c.args.progress.now.faults.items (record { plan = c.args.reached.now; faults = c.add_dir_fault-in-Err.new.faults }) c.args.names.dir c.in-Err.why c.requires.none c.requires.dir c.add_dir_fault-in-Err.ensures.faults c.in-Err.ensures.stopped

pub returns-in-Err-clause-went : goal.returns-in-Err-clause-went
returns-in-Err-clause-went g c = dir_went c.in-Err.why c.args.names.dir c.args.progress.now.faults.items c.add_dir_fault-in-Err.new.faults.items _ _ c.add_dir_fault-in-Err.ensures.faults (λ e. c.look_for_dir.ensures.cause (c.in-Err.is ∙ ap Err e)) c.in-Err.ensures.counts
