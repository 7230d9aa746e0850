use Rattle.lr_laws.proofs.Going.{safe_on}
use Rattle.lr_laws.proofs.safety.safe_goes_on.Goals as goal

pub returns : goal.returns
returns c = safe_on
