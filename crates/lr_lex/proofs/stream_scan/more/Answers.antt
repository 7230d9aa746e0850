use Rattle.lr_lex.proofs.Passing.{filled_same}
use Rattle.lr_lex.proofs.stream_scan.more.Goals as goal

pub returns-in-Ok-clause-filled : goal.returns-in-Ok-clause-filled
returns-in-Ok-clause-filled c = filled_same c.args.held.now c.fill.new.held c.fill.ensures.filled
