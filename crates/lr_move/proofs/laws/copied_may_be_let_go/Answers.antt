use Rattle.lr_move.proofs.LettingGo.{may_go}
use Rattle.lr_move.proofs.laws.copied_may_be_let_go.Goals as goal

pub returns : goal.returns
returns c = may_go
