use Rattle.std.proofs.Common.{sym, ◌∙◌}
use Rattle.lr_disk.proofs.StepLemmas.{behind, not_behind}
use Rattle.lr_disk.proofs.pending.is_behind.Goals as goal

pub returns-then-eq : goal.returns-then-eq
returns-then-eq c = behind c.args.base.now c.args.path.now c.if-path-base.false (sym c.if-eq.ensures)

pub returns-else-eq : goal.returns-else-eq
returns-else-eq c = c.if-eq.false ∙ not_behind c.args.base.now c.args.path.now (sym c.if-eq.ensures)
