use Rattle.lr_chain.proofs.Either.{free_numbers}
use Rattle.lr_chain.proofs.ReadyTurns.{ready_turns}
use Rattle.lr_chain.proofs.laws.ready_turns.Goals as goal

pub returns : goal.returns
returns c = λ log n k maxage clock anew stand kin start count format named free. ready_turns log n k maxage clock anew stand.members kin start count named (free_numbers n k clock stand free) format
