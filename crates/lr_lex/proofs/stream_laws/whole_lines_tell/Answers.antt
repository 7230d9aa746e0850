use Rattle.lr_lex.proofs.Telling.{line_tells, script_tells, script_goes_on}
use Rattle.lr_lex.proofs.stream_laws.whole_lines_tell.Goals as goal

pub returns-clause-line : goal.returns-clause-line
returns-clause-line c = λ number at line s h e p. line_tells number at line s h e p

pub returns-clause-script : goal.returns-clause-script
returns-clause-script c = λ number at bytes count line b h e. script_tells number at bytes count line b h e

pub returns-clause-goes_on : goal.returns-clause-goes_on
returns-clause-goes_on c = λ number at bytes count line b h e. script_goes_on number at bytes count line b h e
