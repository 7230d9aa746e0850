use Rattle.lr_copy.proofs.Keeping.{keeps_log}
use Rattle.lr_copy.proofs.laws.stopped_copies_keep_the_log.Goals as goal

pub returns : goal.returns
returns c = keeps_log
