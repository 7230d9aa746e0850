use Rattle.std.proofs.Common.{arith, ◌∙◌, sym, eqb-true, eq-eqb, ◌+◌}
use Rattle.std.proofs.lemmas.List.{take_rest}
use Rattle.lr_lex.proofs.Lines.{line_of-at, line_of-none, after_line-at, after_line-none}
use Rattle.lr_lex.proofs.split.split_line.Goals as goal

pub returns-in-Some-clause-line : goal.returns-in-Some-clause-line
returns-in-Some-clause-line c =
    let f = c.in-Some.ensures in
    sym (line_of-at c.args.bytes.now c.in-Some.at f.0.high (eqb-true _ 10 f.1) (λ k a e. f.0.before k (omega arith) a (eq-eqb _ 10 e)))

pub returns-in-Some-clause-rest : goal.returns-in-Some-clause-rest
returns-in-Some-clause-rest c =
    let f = c.in-Some.ensures in
    let at = after_line-at c.args.bytes.now c.in-Some.at f.0.high (eqb-true _ 10 f.1) (λ k a e. f.0.before k (omega arith) a (eq-eqb _ 10 e)) in
    take_rest c.args.bytes.now (c.in-Some.at + 1) ∙ sym at

pub returns-in-None-clause-line : goal.returns-in-None-clause-line
returns-in-None-clause-line c =
    sym (line_of-none c.args.bytes.now (λ k a e. c.in-None.ensures k (omega arith) a (eq-eqb _ 10 e)))

pub returns-in-None-clause-rest : goal.returns-in-None-clause-rest
returns-in-None-clause-rest c =
    sym (after_line-none c.args.bytes.now (λ k a e. c.in-None.ensures k (omega arith) a (eq-eqb _ 10 e)))
