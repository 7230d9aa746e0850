use Rattle.std.proofs.Common.{◌∙◌, ap, ◌++◌, take, arith}
use Rattle.lr_writing.proofs.Tables.{take_written}
use Rattle.lr_writing.proofs.buffer.add_line.Goals as goal

pub returns-clause-line : goal.returns-clause-line
returns-clause-line c e at =
    take_written c.args.held _ c.line-count.result c.args.buffer.now c.line-count.new.into (omega (arith, c.requires.room)) (omega arith) ∙ ap (λ xs. take c.args.held c.args.buffer.now ++ xs) (c.line-count.ensures.line e at)
