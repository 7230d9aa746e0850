use Rattle.std.proofs.Common.{eqb-true, eq-eqb, arith}
use Rattle.lr_lex.proofs.Finding.{none_in, first_at}
use Rattle.lr_lex.proofs.split.newline.Goals as goal

pub returns-in-Some : goal.returns-in-Some
returns-in-Some c =
    let f = c.in-Some.ensures in
    first_at c.args.bytes.now c.in-Some.at f.0.high (eqb-true _ 10 f.1) (λ k a e. f.0.before k (omega arith) a (eq-eqb _ 10 e))

pub returns-in-None : goal.returns-in-None
returns-in-None c = none_in c.args.bytes.now (λ k a e. c.in-None.ensures k (omega arith) a (eq-eqb _ 10 e))
