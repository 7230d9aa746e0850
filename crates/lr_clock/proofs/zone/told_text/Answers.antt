use Rattle.lr_due.specs.declared.tz.Zone.TheVariants.{File}
use Rattle.lr_clock.proofs.Zoned.{memory_first, file_told}
use Rattle.lr_clock.proofs.zone.told_text.Goals as goal

pub returns-in_default-clause-stopped : goal.returns-in_default-clause-stopped
returns-in_default-clause-stopped g c = memory_first (File c.args.path.now) _

pub returns-in-Err-clause-stopped : goal.returns-in-Err-clause-stopped
returns-in-Err-clause-stopped g c = file_told c.args.path.now c.in-Ok.name c.in-Err.why c.stop_of.result c.in-Ok.ensures c.stop_of.ensures c.in-Err.ensures.stopped
