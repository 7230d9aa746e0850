use Rattle.std.proofs.Common.{sym, subst, [], ◌∷◌, Ok}
use Rattle.lr_lex.specs.declared.item.Item.{Item}
use Rattle.lr_lex.specs.Holding.{ItemCame}
use Rattle.lr_lex.specs.Moved.{moved_item}
use Rattle.lr_lex.proofs.Passing.{passed_few, passed_held, passed_less, passed_told}
use Rattle.lr_lex.proofs.taking.take_item.Goals as goal

pub returns-clause-held : goal.returns-clause-held
returns-clause-held c = passed_held c.args.held.now c.pass.new.held c.requires.held c.args.lines c.pass.ensures c.requires.tells.next c.requires.tells.lines_few

pub returns-clause-less : goal.returns-clause-less
returns-clause-less c = passed_less c.args.held.now c.pass.new.held c.requires.held c.args.lines c.pass.ensures c.requires.tells.next c.requires.tells.lines_few

pub returns-clause-came : goal.returns-clause-came
returns-clause-came c = subst (λ (x : Item). ItemCame c.args.held.now c.pass.new.held (Ok x)) (sym c.move_item-item.ensures)
    (passed_told c.args.held.now c.pass.new.held c.requires.held c.args.lines c.pass.ensures c.requires.tells.next c.requires.tells.lines_few (Ok (moved_item c.args.held.now.down c.args.held.now.at c.args.item) ∷ []) c.requires.tells.tells)

pub returns-clause-few : goal.returns-clause-few
returns-clause-few c = passed_few c.args.held.now c.pass.new.held c.requires.held c.args.lines c.pass.ensures c.requires.tells.next c.requires.tells.lines_few
