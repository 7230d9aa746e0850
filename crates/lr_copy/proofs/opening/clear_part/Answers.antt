use Rattle.std.proofs.Common.{refl, rules}
use Rattle.lr_host.specs.declared.entry.Entry.TheVariants.{Unlinks}
use Rattle.lr_host.proofs.Left.{left_as}
use Rattle.lr_copy.proofs.Places.{can_unlink, not_cleared, is_cleared}
use Rattle.lr_copy.proofs.Stopping.{left_none, left_asked}
use Rattle.lr_copy.proofs.opening.clear_part.Goals as goal

pub returns-then-not-job-clause-told : goal.returns-then-not-job-clause-told
returns-then-not-job-clause-told g c = left_none c.args.job.now.stale (Unlinks c.args.job.now.part) _ (search rules)

pub returns-then-not-job-clause-next : goal.returns-then-not-job-clause-next
returns-then-not-job-clause-next g c = not_cleared c.args.job.now c.requires.fits

pub unlink-requires : goal.unlink-requires
unlink-requires g c = can_unlink c.args.job.now (search rules) c.requires.fits

pub returns-in-Ok-clause-told : goal.returns-in-Ok-clause-told
returns-in-Ok-clause-told g c = left_asked c.args.job.now.stale (Unlinks c.args.job.now.part) (search rules) c.in-Ok.ensures.told

pub returns-in-Ok-clause-next : goal.returns-in-Ok-clause-next
returns-in-Ok-clause-next g c = is_cleared c.args.job.now c.requires.paths (search rules) c.requires.fits c.in-Ok.ensures.told

pub returns-in-Err-clause-refused : goal.returns-in-Err-clause-refused
returns-in-Err-clause-refused g c = left_as c.in-Err.ensures.told (λ ts h. (refl, search rules, h))
