use Rattle.std.proofs.Common.{rules}
use Rattle.lr_state.proofs.write.put_escaped.Goals as goal

pub returns-clause-written : goal.returns-clause-written
returns-clause-written c = search rules
