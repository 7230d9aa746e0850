use Rattle.std.proofs.Common.{refl, rules}
use Rattle.lr_host.specs.declared.entry.Entry.TheVariants.{Truncates}
use Rattle.lr_host.proofs.Left.{left_as}
use Rattle.lr_copy.proofs.Places.{can_truncate}
use Rattle.lr_copy.proofs.Stopping.{left_none, left_asked}
use Rattle.lr_copy.proofs.naming.cut_log.Goals as goal

pub returns-then-not-job-clause-told : goal.returns-then-not-job-clause-told
returns-then-not-job-clause-told g c = left_none c.args.job.now.cut (Truncates c.args.job.now.from) _ (search rules)

pub truncate-requires : goal.truncate-requires
truncate-requires g c = can_truncate c.args.job.now c.requires

pub returns-in-Ok-clause-told : goal.returns-in-Ok-clause-told
returns-in-Ok-clause-told g c = left_asked c.args.job.now.cut (Truncates c.args.job.now.from) (search rules) c.in-Ok.ensures.told

pub returns-in-Err-clause-refused : goal.returns-in-Err-clause-refused
returns-in-Err-clause-refused g c = left_as c.in-Err.ensures.told (λ ts h. (refl, search rules, h))
