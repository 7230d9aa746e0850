use Rattle.lr_writing.proofs.Named.{named_whole}
use Rattle.lr_writing.proofs.laws.whole_writing_names_state.Goals as goal

pub returns : goal.returns
returns c = named_whole
