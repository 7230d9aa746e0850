use Rattle.std.proofs.Common.{inl, refl}
use Rattle.lr_host.proofs.Left.{left_first}
use Rattle.lr_cat.specs.declared.stop.CatStop.TheVariants as stop
use Rattle.lr_cat.specs.Cats.{StopsSo}
use Rattle.lr_cat.proofs.run.put_log.Goals as goal

pub returns-in_default-clause-stopped : goal.returns-in_default-clause-stopped
returns-in_default-clause-stopped g c = left_first (StopsSo c.args.wanted.now c.args.clock.now c.args.rules.now stop.Memory) (g.H.Host.told c.args.host.now) (inl refl)

pub returns-in_default-vec-clause-stopped : goal.returns-in_default-vec-clause-stopped
returns-in_default-vec-clause-stopped g c = left_first (StopsSo c.args.wanted.now c.args.clock.now c.args.rules.now stop.Memory) (g.H.Host.told c.args.host.now) (inl refl)
