use Rattle.lr_host.proofs.Left.{left_as}
use Rattle.lr_copy.specs.Copying.{naming, cutting}
use Rattle.lr_copy.specs.Stops.{at_name}
use Rattle.lr_copy.proofs.Stopping.{then_ok, cut_refused}
use Rattle.lr_copy.proofs.naming.close_copy.Goals as goal

pub returns-in-Err-clause-refused : goal.returns-in-Err-clause-refused
returns-in-Err-clause-refused g c = left_as c.in-Err.ensures.refused (λ ts h. at_name h)

pub returns-clause-told : goal.returns-clause-told
returns-clause-told g c = then_ok c.cut_log.result (naming c.args.job.now) (cutting c.args.job.now) _ c.in_default.ensures.told c.cut_log.ensures.told

pub returns-clause-refused : goal.returns-clause-refused
returns-clause-refused g c = cut_refused c.cut_log.result c.args.job.now _ c.in_default.ensures.told c.cut_log.ensures.refused
