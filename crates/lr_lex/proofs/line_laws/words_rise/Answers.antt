use Rattle.lr_lex.proofs.Spans.{text-rises}
use Rattle.lr_lex.proofs.line_laws.words_rise.Goals as goal

pub returns : goal.returns
returns c = text-rises
