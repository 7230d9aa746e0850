use Rattle.lr_laws.proofs.Stated.{at_first}
use Rattle.lr_laws.proofs.safety.opening_is_safe.Goals as goal

pub returns : goal.returns
returns c = at_first
