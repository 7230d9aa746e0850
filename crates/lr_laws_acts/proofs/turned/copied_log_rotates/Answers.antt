use Rattle.lr_laws_acts.proofs.Rotates.{copied_among}
use Rattle.lr_laws_acts.proofs.turned.copied_log_rotates.Goals as goal

pub returns : goal.returns
returns c = copied_among
