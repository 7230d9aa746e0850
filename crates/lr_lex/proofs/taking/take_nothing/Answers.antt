use Rattle.std.proofs.Common.{[]}
use Rattle.lr_lex.proofs.Passing.{passed_few, passed_held, passed_less, passed_told}
use Rattle.lr_lex.proofs.taking.take_nothing.Goals as goal

pub returns-clause-held : goal.returns-clause-held
returns-clause-held c = passed_held c.args.held.now c.pass.new.held c.requires.held 1 c.pass.ensures c.requires.tells.next c.requires.tells.lines_few

pub returns-clause-less : goal.returns-clause-less
returns-clause-less c = passed_less c.args.held.now c.pass.new.held c.requires.held 1 c.pass.ensures c.requires.tells.next c.requires.tells.lines_few

pub returns-clause-same : goal.returns-clause-same
returns-clause-same c = passed_told c.args.held.now c.pass.new.held c.requires.held 1 c.pass.ensures c.requires.tells.next c.requires.tells.lines_few [] c.requires.tells.tells

pub returns-clause-few : goal.returns-clause-few
returns-clause-few c = passed_few c.args.held.now c.pass.new.held c.requires.held 1 c.pass.ensures c.requires.tells.next c.requires.tells.lines_few
