use Rattle.std.proofs.Common.{true, Ok, refl}
use Rattle.lr_host.proofs.Left.{left_first}
use Rattle.lr_plan.specs.Asked.{asking}
use Rattle.lr_run.specs.Halt.{OfMemory, Halts, no_memory}
use Rattle.lr_run.proofs.Trying.{tells_so, lacks_memory}
use Rattle.lr_run.proofs.dry.dry_run.Goals as goal

pub returns-in_default-clause-told : goal.returns-in_default-clause-told
returns-in_default-clause-told g c = lacks_memory c.args.settings.now.state (asking c.args.settings.now.force c.args.settings.now.mailer) c.args.clock.now c.args.rules.now c.args.earlier.items
    (left_first (Halts true c.args.settings.now.state c.args.rules.now c.args.clock.now (asking c.args.settings.now.force c.args.settings.now.mailer) OfMemory) _ (no_memory refl refl))

pub returns-in_default-reserve-clause-told : goal.returns-in_default-reserve-clause-told
returns-in_default-reserve-clause-told g c = lacks_memory c.args.settings.now.state (asking c.args.settings.now.force c.args.settings.now.mailer) c.args.clock.now c.args.rules.now c.args.earlier.items
    (left_first (Halts true c.args.settings.now.state c.args.rules.now c.args.clock.now (asking c.args.settings.now.force c.args.settings.now.mailer) OfMemory) _ (no_memory refl refl))

pub returns-in-Ok-try_run-clause-told : goal.returns-in-Ok-try_run-clause-told
returns-in-Ok-try_run-clause-told g c = tells_so c.args.settings.now.state (asking c.args.settings.now.force c.args.settings.now.mailer) c.args.clock.now c.args.rules.now c.args.earlier.items c.reserve.new.self.items (Ok (record { plan = c.in-Ok-try_run.plan; faults = c.try_run.new.faults })) c.reserve.ensures.items c.in-Ok-try_run.ensures.told

pub returns-in-Err-clause-told : goal.returns-in-Err-clause-told
returns-in-Err-clause-told g c = lacks_memory c.args.settings.now.state (asking c.args.settings.now.force c.args.settings.now.mailer) c.args.clock.now c.args.rules.now c.args.earlier.items c.in-Err.ensures.some
