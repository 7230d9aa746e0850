use Rattle.lr_laws.proofs.Stated.{cut_safe}
use Rattle.lr_laws.proofs.safety.cut_stays_safe.Goals as goal

pub returns : goal.returns
returns c = cut_safe
