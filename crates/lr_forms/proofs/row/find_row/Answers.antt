use Rattle.lr_forms.proofs.Rows.{found, none}
use Rattle.lr_forms.proofs.row.find_row.Goals as goal

pub returns-in-Some : goal.returns-in-Some
returns-in-Some g c = found c.directives-table.result.rows.now c.args.word.now c.in-Some.place _ c.directives-table.ensures c.in-Some.ensures.found

pub returns : goal.returns
returns g c = none c.directives-table.result.rows.now c.args.word.now c.directives-table.ensures c.in-None.ensures.none
