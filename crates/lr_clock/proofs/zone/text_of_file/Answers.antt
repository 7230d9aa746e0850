use Rattle.lr_clock.proofs.Zoned.{stops}
use Rattle.lr_clock.proofs.zone.text_of_file.Goals as goal

pub returns-in-Err-bytes_of-clause-stopped : goal.returns-in-Err-bytes_of-clause-stopped
returns-in-Err-bytes_of-clause-stopped g c = stops c.args.path.now c.in-Err-bytes_of.stop (c.is_file.ensures.file (cc)) c.in-Err-bytes_of.ensures.stopped
