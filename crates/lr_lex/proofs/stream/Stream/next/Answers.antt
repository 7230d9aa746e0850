use Rattle.std.proofs.Common.{rules}
use Rattle.lr_lex.proofs.stream.Stream.next.Goals as goal

pub returns-else-self-clause-gives : goal.returns-else-self-clause-gives
returns-else-self-clause-gives c = search rules
