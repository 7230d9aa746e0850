use Rattle.std.proofs.Common.{[], false, Ok, Err, refl, sym, subst}
use Rattle.lr_host.proofs.Left.{left_as, left_first}
use Rattle.lr_laws_rotations.specs.Runs.{IsWholeRunBy}
use Rattle.lr_laws_rotations.proofs.RunSafety.{all_safe}
use Rattle.lr_plan.specs.Asked.{asking}
use Rattle.lr_run.specs.declared.answer.Ran.{Ran}
use Rattle.lr_run.specs.declared.answer.RunStop.TheVariants as stop
use Rattle.lr_run.specs.Ran.{RanSo}
use Rattle.lr_run.proofs.Emptying.{run_copied}
use Rattle.lr_run.proofs.Evidence.{answers_of}
use Rattle.lr_run.proofs.Lets.{run_moved}
use Rattle.lr_run.proofs.Parts.{none_made, ran_so, stopped_so}
use Rattle.lr_run.proofs.Shape.{none_run, whole_run}
use Rattle.lr_run.proofs.Leaving.{run_whole}
use Rattle.lr_run.proofs.whole.real_run.Goals as goal

pub returns-in_default-clause-told : goal.returns-in_default-clause-told
returns-in_default-clause-told g c = none_made c.args.settings.now.state (asking c.args.settings.now.force c.args.settings.now.mailer) c.args.clock.now c.args.rules.now c.args.earlier.items _

pub returns-in_default-clause-shape : goal.returns-in_default-clause-shape
returns-in_default-clause-shape g c = left_first (IsWholeRunBy c.args.clock.now) _ (none_run c.args.clock.now [] refl)

pub returns-in_default-clause-safe : goal.returns-in_default-clause-safe
returns-in_default-clause-safe g c = all_safe c.args.clock.now _ _ (left_first (IsWholeRunBy c.args.clock.now) _ (none_run c.args.clock.now [] refl))

pub returns-in_default-progress_from-clause-told : goal.returns-in_default-progress_from-clause-told
returns-in_default-progress_from-clause-told g c = none_made c.args.settings.now.state (asking c.args.settings.now.force c.args.settings.now.mailer) c.args.clock.now c.args.rules.now c.args.earlier.items _

pub returns-in_default-progress_from-clause-shape : goal.returns-in_default-progress_from-clause-shape
returns-in_default-progress_from-clause-shape g c = left_first (IsWholeRunBy c.args.clock.now) _ (none_run c.args.clock.now [] refl)

pub returns-in_default-progress_from-clause-safe : goal.returns-in_default-progress_from-clause-safe
returns-in_default-progress_from-clause-safe g c = all_safe c.args.clock.now _ _ (left_first (IsWholeRunBy c.args.clock.now) _ (none_run c.args.clock.now [] refl))

pub returns-in-Ok-make_run-clause-told : goal.returns-in-Ok-make_run-clause-told
returns-in-Ok-make_run-clause-told g c = subst (λ (ran : Ran). RanSo false c.args.settings.now.state c.args.rules.now c.args.clock.now (asking c.args.settings.now.force c.args.settings.now.mailer) c.args.earlier.items (Ok ran) (g.H.Host.told c.args.host.now) (g.H.Host.told c.make_run.new.host)) (sym c.ran_of.ensures)
    (ran_so c.args.settings.now.state (asking c.args.settings.now.force c.args.settings.now.mailer) c.args.clock.now c.args.rules.now c.args.earlier.items c.in-Ok-progress_from.progress.faults.items (Ok (record { plan = c.make_run.new.reached; faults = c.make_run.new.progress.faults })) c.in-Ok-progress_from.ensures.faults c.in-Ok-make_run.ensures.told)

pub returns-in-Ok-make_run-clause-shape : goal.returns-in-Ok-make_run-clause-shape
returns-in-Ok-make_run-clause-shape g c = left_as (answers_of c.args.settings.now.state (asking c.args.settings.now.force c.args.settings.now.mailer) c.args.clock.now c.args.rules.now c.args.earlier.items (Ok c.ran_of.result) (returns-in-Ok-make_run-clause-told g c)) (λ ts h. whole_run c.args.settings.now.state (asking c.args.settings.now.force c.args.settings.now.mailer) c.args.clock.now c.args.rules.now c.args.earlier.items (Ok c.ran_of.result) ts h)

pub returns-in-Ok-make_run-clause-safe : goal.returns-in-Ok-make_run-clause-safe
returns-in-Ok-make_run-clause-safe g c = all_safe c.args.clock.now _ _ (returns-in-Ok-make_run-clause-shape g c)

pub returns-in-Err-clause-told : goal.returns-in-Err-clause-told
returns-in-Err-clause-told g c = stopped_so c.args.settings.now.state (asking c.args.settings.now.force c.args.settings.now.mailer) c.args.clock.now c.args.rules.now c.args.earlier.items c.in-Err.why c.in-Err.ensures.stopped

pub returns-in-Err-clause-shape : goal.returns-in-Err-clause-shape
returns-in-Err-clause-shape g c = left_as (answers_of c.args.settings.now.state (asking c.args.settings.now.force c.args.settings.now.mailer) c.args.clock.now c.args.rules.now c.args.earlier.items (Err c.in-Err.why) (returns-in-Err-clause-told g c)) (λ ts h. whole_run c.args.settings.now.state (asking c.args.settings.now.force c.args.settings.now.mailer) c.args.clock.now c.args.rules.now c.args.earlier.items (Err c.in-Err.why) ts h)

pub returns-in-Err-clause-safe : goal.returns-in-Err-clause-safe
returns-in-Err-clause-safe g c = all_safe c.args.clock.now _ _ (returns-in-Err-clause-shape g c)

pub returns-in_default-clause-state : goal.returns-in_default-clause-state
returns-in_default-clause-state g c = run_whole c.args.settings.now.state c.args.rules.now c.args.clock.now (asking c.args.settings.now.force c.args.settings.now.mailer) c.args.earlier.items (Err stop.Memory) (returns-in_default-clause-told g c)

pub returns-in_default-progress_from-clause-state : goal.returns-in_default-progress_from-clause-state
returns-in_default-progress_from-clause-state g c = run_whole c.args.settings.now.state c.args.rules.now c.args.clock.now (asking c.args.settings.now.force c.args.settings.now.mailer) c.args.earlier.items (Err stop.Memory) (returns-in_default-progress_from-clause-told g c)

pub returns-in-Ok-make_run-clause-state : goal.returns-in-Ok-make_run-clause-state
returns-in-Ok-make_run-clause-state g c = run_whole c.args.settings.now.state c.args.rules.now c.args.clock.now (asking c.args.settings.now.force c.args.settings.now.mailer) c.args.earlier.items (Ok c.ran_of.result) (returns-in-Ok-make_run-clause-told g c)

pub returns-in-Err-clause-state : goal.returns-in-Err-clause-state
returns-in-Err-clause-state g c = run_whole c.args.settings.now.state c.args.rules.now c.args.clock.now (asking c.args.settings.now.force c.args.settings.now.mailer) c.args.earlier.items (Err c.in-Err.why) (returns-in-Err-clause-told g c)

pub returns-in_default-clause-copied : goal.returns-in_default-clause-copied
returns-in_default-clause-copied g c = run_copied c.args.settings.now.state (asking c.args.settings.now.force c.args.settings.now.mailer) c.args.clock.now c.args.rules.now c.args.earlier.items (Err stop.Memory) (answers_of c.args.settings.now.state (asking c.args.settings.now.force c.args.settings.now.mailer) c.args.clock.now c.args.rules.now c.args.earlier.items (Err stop.Memory) (returns-in_default-clause-told g c))

pub returns-in_default-progress_from-clause-copied : goal.returns-in_default-progress_from-clause-copied
returns-in_default-progress_from-clause-copied g c = run_copied c.args.settings.now.state (asking c.args.settings.now.force c.args.settings.now.mailer) c.args.clock.now c.args.rules.now c.args.earlier.items (Err stop.Memory) (answers_of c.args.settings.now.state (asking c.args.settings.now.force c.args.settings.now.mailer) c.args.clock.now c.args.rules.now c.args.earlier.items (Err stop.Memory) (returns-in_default-progress_from-clause-told g c))

pub returns-in-Ok-make_run-clause-copied : goal.returns-in-Ok-make_run-clause-copied
returns-in-Ok-make_run-clause-copied g c = run_copied c.args.settings.now.state (asking c.args.settings.now.force c.args.settings.now.mailer) c.args.clock.now c.args.rules.now c.args.earlier.items (Ok c.ran_of.result) (answers_of c.args.settings.now.state (asking c.args.settings.now.force c.args.settings.now.mailer) c.args.clock.now c.args.rules.now c.args.earlier.items (Ok c.ran_of.result) (returns-in-Ok-make_run-clause-told g c))

pub returns-in-Err-clause-copied : goal.returns-in-Err-clause-copied
returns-in-Err-clause-copied g c = run_copied c.args.settings.now.state (asking c.args.settings.now.force c.args.settings.now.mailer) c.args.clock.now c.args.rules.now c.args.earlier.items (Err c.in-Err.why) (answers_of c.args.settings.now.state (asking c.args.settings.now.force c.args.settings.now.mailer) c.args.clock.now c.args.rules.now c.args.earlier.items (Err c.in-Err.why) (returns-in-Err-clause-told g c))

pub returns-in_default-clause-moved : goal.returns-in_default-clause-moved
returns-in_default-clause-moved g c = run_moved c.args.settings.now.state (asking c.args.settings.now.force c.args.settings.now.mailer) c.args.clock.now c.args.rules.now c.args.earlier.items (Err stop.Memory) (answers_of c.args.settings.now.state (asking c.args.settings.now.force c.args.settings.now.mailer) c.args.clock.now c.args.rules.now c.args.earlier.items (Err stop.Memory) (returns-in_default-clause-told g c))

pub returns-in_default-progress_from-clause-moved : goal.returns-in_default-progress_from-clause-moved
returns-in_default-progress_from-clause-moved g c = run_moved c.args.settings.now.state (asking c.args.settings.now.force c.args.settings.now.mailer) c.args.clock.now c.args.rules.now c.args.earlier.items (Err stop.Memory) (answers_of c.args.settings.now.state (asking c.args.settings.now.force c.args.settings.now.mailer) c.args.clock.now c.args.rules.now c.args.earlier.items (Err stop.Memory) (returns-in_default-progress_from-clause-told g c))

pub returns-in-Ok-make_run-clause-moved : goal.returns-in-Ok-make_run-clause-moved
returns-in-Ok-make_run-clause-moved g c = run_moved c.args.settings.now.state (asking c.args.settings.now.force c.args.settings.now.mailer) c.args.clock.now c.args.rules.now c.args.earlier.items (Ok c.ran_of.result) (answers_of c.args.settings.now.state (asking c.args.settings.now.force c.args.settings.now.mailer) c.args.clock.now c.args.rules.now c.args.earlier.items (Ok c.ran_of.result) (returns-in-Ok-make_run-clause-told g c))

pub returns-in-Err-clause-moved : goal.returns-in-Err-clause-moved
returns-in-Err-clause-moved g c = run_moved c.args.settings.now.state (asking c.args.settings.now.force c.args.settings.now.mailer) c.args.clock.now c.args.rules.now c.args.earlier.items (Err c.in-Err.why) (answers_of c.args.settings.now.state (asking c.args.settings.now.force c.args.settings.now.mailer) c.args.clock.now c.args.rules.now c.args.earlier.items (Err c.in-Err.why) (returns-in-Err-clause-told g c))
