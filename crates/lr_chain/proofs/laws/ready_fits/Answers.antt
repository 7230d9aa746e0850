use Rattle.lr_chain.proofs.Either.{free_numbers}
use Rattle.lr_chain.proofs.ReadyTurns.{ready_fits}
use Rattle.lr_chain.proofs.laws.ready_fits.Goals as goal

pub returns : goal.returns
returns c = λ log n k maxage clock anew stand kin dir start count format named free. ready_fits log n k maxage clock anew stand.members kin start count named (free_numbers n k clock stand free) format dir
