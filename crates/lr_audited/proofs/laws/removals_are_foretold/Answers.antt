use Rattle.lr_audited.proofs.Foretelling.{all_foretold}
use Rattle.lr_audited.proofs.laws.removals_are_foretold.Goals as goal

pub returns : goal.returns
returns c = all_foretold
