use Rattle.lr_lex.proofs.Passing.{pushed_few, pushed_held, pushed_less, pushed_same}
use Rattle.lr_lex.proofs.taking.keep_line.Goals as goal

pub returns-in-Ok-clause-held : goal.returns-in-Ok-clause-held
returns-in-Ok-clause-held c = pushed_held c.args.held.now c.push_line.new.held c.requires.held c.in-Ok.ensures c.requires.next c.requires.begun

pub returns-in-Ok-clause-brings : goal.returns-in-Ok-clause-brings
returns-in-Ok-clause-brings c = pushed_same c.args.held.now c.push_line.new.held c.requires.held c.in-Ok.ensures c.requires.next

pub returns-in-Ok-clause-less : goal.returns-in-Ok-clause-less
returns-in-Ok-clause-less c = pushed_less c.args.held.now c.push_line.new.held c.requires.held c.in-Ok.ensures c.requires.next

pub returns-in-Ok-clause-few : goal.returns-in-Ok-clause-few
returns-in-Ok-clause-few c = pushed_few c.args.held.now c.push_line.new.held c.requires.held c.in-Ok.ensures c.requires.next
