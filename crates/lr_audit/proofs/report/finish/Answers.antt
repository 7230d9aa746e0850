use Rattle.lr_audit.proofs.Answering.{memory_answers}
use Rattle.lr_audit.proofs.report.finish.Goals as goal

pub returns-in-Err-clause-answers : goal.returns-in-Err-clause-answers
returns-in-Err-clause-answers g c = memory_answers c.args.run _ _ _ _ _ _ c.in-Err.is c.printed.ensures.same c.printed.ensures.printed c.printed.ensures.whole
