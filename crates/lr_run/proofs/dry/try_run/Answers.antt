use Rattle.std.proofs.Common.{true, false, [], ◌∷◌, ◌++◌, Err, ap, ◌∙◌}
use Rattle.lr_rules.specs.declared.fault.Fault.{Fault}
use Rattle.lr_host.proofs.Counts.{went_behind}
use Rattle.lr_family.proofs.Whole.{seen_as}
use Rattle.lr_plan.specs.Asked.{asking}
use Rattle.lr_run.proofs.Trying.{tried_by, tried_by_none, not_tried, lacks_state, lacks_looks}
use Rattle.lr_run.proofs.Ending.{dir_went}
use Rattle.lr_run.proofs.dry.try_run.Goals as goal

pub returns-in-Ok-true-clause-told : goal.returns-in-Ok-true-clause-told
returns-in-Ok-true-clause-told g c = tried_by c.read_and_plan.result c.args.settings.now.state c.args.rules.now c.args.clock.now (asking c.args.settings.now.force c.args.settings.now.mailer) c.args.dir c.args.faults.now.items c.read_and_plan.new.faults _ c.requires.dir (seen_as c.args.dir c.in-Ok-true.field-0 true c.in-Ok-true.field-0-test c.in-Ok-true.ensures.told) c.read_and_plan.ensures.told

pub returns-in-Ok-true-clause-some : goal.returns-in-Ok-true-clause-some
returns-in-Ok-true-clause-some g c = lacks_state c.read_and_plan.result c.args.settings.now.state c.args.rules.now c.args.clock.now (asking c.args.settings.now.force c.args.settings.now.mailer) c.args.dir _ c.requires.dir (seen_as c.args.dir c.in-Ok-true.field-0 true c.in-Ok-true.field-0-test c.in-Ok-true.ensures.told) c.read_and_plan.ensures.some

pub returns-in-Ok-true-clause-went : goal.returns-in-Ok-true-clause-went
returns-in-Ok-true-clause-went g c = went_behind c.read_and_plan.result c.args.faults.now.items c.read_and_plan.new.faults.items _ _ _ c.in-Ok-true.ensures.counts c.read_and_plan.ensures.went

pub returns-in-Ok-false-clause-told : goal.returns-in-Ok-false-clause-told
returns-in-Ok-false-clause-told g c = tried_by_none c.look_and_plan.result c.args.settings.now.state c.args.rules.now c.new-table.result c.args.clock.now (asking c.args.settings.now.force c.args.settings.now.mailer) c.args.dir c.args.faults.now.items c.look_and_plan.new.faults _ c.requires.dir c.new-table.ensures (seen_as c.args.dir c.in-Ok-false.field-0 false c.in-Ok-false.field-0-test c.in-Ok-false.ensures.told) c.look_and_plan.ensures.told

pub returns-in-Ok-false-clause-some : goal.returns-in-Ok-false-clause-some
returns-in-Ok-false-clause-some g c = lacks_looks c.look_and_plan.result c.args.settings.now.state c.args.rules.now c.args.clock.now (asking c.args.settings.now.force c.args.settings.now.mailer) c.args.dir _ c.requires.dir (seen_as c.args.dir c.in-Ok-false.field-0 false c.in-Ok-false.field-0-test c.in-Ok-false.ensures.told) c.look_and_plan.ensures.some

pub returns-in-Ok-false-clause-went : goal.returns-in-Ok-false-clause-went
returns-in-Ok-false-clause-went g c = went_behind c.look_and_plan.result c.args.faults.now.items c.look_and_plan.new.faults.items _ _ _ c.in-Ok-false.ensures.counts c.look_and_plan.ensures.went

pub returns-clause-told : goal.returns-clause-told
returns-clause-told g c = not_tried c.args.settings.now.state c.args.rules.now c.args.clock.now (asking c.args.settings.now.force c.args.settings.now.mailer) c.in-Err.why c.args.dir c.args.faults.now.items c.add_fault.new.faults c.requires.dir (c.add_fault.ensures.faults ∙ ap (λ (f : Fault). c.args.faults.now.items ++ f ∷ []) c.dir_fault.ensures) c.in-Err.ensures.stopped

pub returns-clause-went : goal.returns-clause-went
returns-clause-went g c = dir_went c.in-Err.why c.args.dir c.args.faults.now.items c.add_fault.new.faults.items _ _ (c.add_fault.ensures.faults ∙ ap (λ (f : Fault). c.args.faults.now.items ++ f ∷ []) c.dir_fault.ensures) (λ e. c.look_for_dir.ensures.cause (c.in-Err.is ∙ ap Err e)) c.in-Err.ensures.counts
