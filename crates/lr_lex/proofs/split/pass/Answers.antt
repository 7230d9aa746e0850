use Rattle.std.proofs.Common.{arith}
use Rattle.lr_lex.proofs.First.{sizes}
use Rattle.lr_lex.proofs.split.pass.Goals as goal

pub invariant_of-result : goal.invariant_of-result
invariant_of-result c =
    let s = sizes _ _ _ c.requires c.split_line.ensures.line c.split_line.ensures.rest in
    record { few_lines = omega (arith, s.less); few_bytes = omega (arith, s.sum) }

pub returns-clause-less : goal.returns-clause-less
returns-clause-less c = (sizes _ _ _ c.requires c.split_line.ensures.line c.split_line.ensures.rest).less

pub returns-clause-size : goal.returns-clause-size
returns-clause-size c =
    let s = (sizes _ _ _ c.requires c.split_line.ensures.line c.split_line.ensures.rest).sum in
    rw (← c.split_line.ensures.line) (omega (arith, s))
