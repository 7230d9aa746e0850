use Rattle.std.proofs.Common.{sym, subst, [], ◌∷◌, Err}
use Rattle.lr_lex.specs.declared.item.LexFault.{LexFault}
use Rattle.lr_lex.specs.Holding.{ItemCame}
use Rattle.lr_lex.specs.Moved.{moved_fault}
use Rattle.lr_lex.proofs.Passing.{passed_few, passed_held, passed_told}
use Rattle.lr_lex.proofs.taking.take_fault.Goals as goal

pub returns-clause-held : goal.returns-clause-held
returns-clause-held c = passed_held c.args.held.now c.pass.new.held c.requires.held c.args.lines c.pass.ensures c.requires.tells.next c.requires.tells.lines_few

pub returns-clause-came : goal.returns-clause-came
returns-clause-came c = subst (λ (x : LexFault). ItemCame c.args.held.now c.pass.new.held (Err x)) (sym c.move_fault-fault.ensures)
    (passed_told c.args.held.now c.pass.new.held c.requires.held c.args.lines c.pass.ensures c.requires.tells.next c.requires.tells.lines_few (Err (moved_fault c.args.held.now.down c.args.fault) ∷ []) c.requires.tells.tells)

pub returns-clause-few : goal.returns-clause-few
returns-clause-few c = passed_few c.args.held.now c.pass.new.held c.requires.held c.args.lines c.pass.ensures c.requires.tells.next c.requires.tells.lines_few
