use Rattle.lr_writing.proofs.Named.{named_last}
use Rattle.lr_writing.proofs.laws.state_is_named_last.Goals as goal

pub returns : goal.returns
returns c = named_last
