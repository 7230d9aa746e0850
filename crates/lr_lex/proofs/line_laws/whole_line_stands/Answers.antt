use Rattle.lr_lex.proofs.LawsOf.{lines-more}
use Rattle.lr_lex.proofs.line_laws.whole_line_stands.Goals as goal

pub returns : goal.returns
returns c = lines-more
