use Rattle.lr_host.proofs.Left.{left_as}
use Rattle.lr_laws_rotations.proofs.RunSafety.{all_safe}
use Rattle.lr_plan.specs.Asked.{asking}
use Rattle.lr_run.proofs.Evidence.{answers_of}
use Rattle.lr_run.proofs.Short.{answers_short, dry_short}
use Rattle.lr_run.proofs.Sighted.{dry_sights, dry_shape, dry_whole, dry_copied, dry_moved}
use Rattle.lr_run.proofs.asked.run.Goals as goal

pub returns-then-settings-clause-told : goal.returns-then-settings-clause-told
returns-then-settings-clause-told g c = rw c.if-settings.true (c.dry_run.ensures.told)

pub returns-else-settings-clause-told : goal.returns-else-settings-clause-told
returns-else-settings-clause-told g c = rw c.if-settings.false (c.real_run.ensures.told)

pub returns-then-settings-clause-shape : goal.returns-then-settings-clause-shape
returns-then-settings-clause-shape g c = dry_shape c.args.settings.now.state c.args.rules.now c.args.clock.now (asking c.args.settings.now.force c.args.settings.now.mailer) c.args.earlier.items c.dry_run.result c.dry_run.ensures.told

pub returns-then-settings-clause-safe : goal.returns-then-settings-clause-safe
returns-then-settings-clause-safe g c = all_safe c.args.clock.now _ _ (returns-then-settings-clause-shape g c)

pub returns-then-settings-clause-state : goal.returns-then-settings-clause-state
returns-then-settings-clause-state g c = dry_whole c.args.settings.now.state c.args.rules.now c.args.clock.now (asking c.args.settings.now.force c.args.settings.now.mailer) c.args.earlier.items c.dry_run.result c.dry_run.ensures.told

pub returns-then-settings-clause-copied : goal.returns-then-settings-clause-copied
returns-then-settings-clause-copied g c = dry_copied c.args.settings.now.state c.args.rules.now c.args.clock.now (asking c.args.settings.now.force c.args.settings.now.mailer) c.args.earlier.items c.dry_run.result c.dry_run.ensures.told

pub returns-then-settings-clause-short : goal.returns-then-settings-clause-short
returns-then-settings-clause-short g c = dry_short c.args.settings.now.state c.args.rules.now c.args.clock.now (asking c.args.settings.now.force c.args.settings.now.mailer) c.args.earlier.items c.dry_run.result c.dry_run.ensures.told

pub returns-else-settings-clause-short : goal.returns-else-settings-clause-short
returns-else-settings-clause-short g c = left_as (answers_of c.args.settings.now.state (asking c.args.settings.now.force c.args.settings.now.mailer) c.args.clock.now c.args.rules.now c.args.earlier.items c.real_run.result c.real_run.ensures.told) (answers_short c.args.settings.now.state (asking c.args.settings.now.force c.args.settings.now.mailer) c.args.clock.now c.args.rules.now c.args.earlier.items c.real_run.result)

pub returns-then-settings-clause-dry : goal.returns-then-settings-clause-dry
returns-then-settings-clause-dry g c = λ e. dry_sights c.args.settings.now.state c.args.rules.now c.args.clock.now (asking c.args.settings.now.force c.args.settings.now.mailer) c.args.earlier.items c.dry_run.result c.dry_run.ensures.told

pub returns-then-settings-clause-moved : goal.returns-then-settings-clause-moved
returns-then-settings-clause-moved g c = dry_moved c.args.settings.now.state c.args.rules.now c.args.clock.now (asking c.args.settings.now.force c.args.settings.now.mailer) c.args.earlier.items c.dry_run.result c.dry_run.ensures.told
