use Rattle.std.proofs.Common.{Ok}
use Rattle.lr_audit.specs.Came.{answer_of}
use Rattle.lr_audit.proofs.Answering.{report_answers}
use Rattle.lr_audit.proofs.report.report.Goals as goal

pub returns-clause-answers : goal.returns-clause-answers
returns-clause-answers g c = report_answers c.put_told-put.result _ (answer_of (Ok c.args.told)) _ _ _ _ _ c.put_told-put.ensures c.report_after.ensures.whole c.report_after.ensures.out
