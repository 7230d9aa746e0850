use Rattle.lr_lex.proofs.Further.{items_moved}
use Rattle.lr_lex.proofs.stream_laws.items_move.Goals as goal

pub returns : goal.returns
returns c = λ number at down by text. items_moved down by number at text
