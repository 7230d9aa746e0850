use Rattle.std.proofs.Common.{refl}
use Rattle.lr_host.proofs.Left.{left_as, left_both, are_on}
use Rattle.lr_copy.proofs.Places.{can_rename, is_renamed, can_sync_dir, is_synced}
use Rattle.lr_copy.proofs.naming.name_copy.Goals as goal

pub rename-requires : goal.rename-requires
rename-requires g c = can_rename c.args.job.now c.requires.paths c.requires.fits

pub returns-in_default-clause-refused : goal.returns-in_default-clause-refused
returns-in_default-clause-refused g c = left_as c.in_default.ensures.told (λ ts h. (refl, h))

pub sync_dir-requires : goal.sync_dir-requires
sync_dir-requires g c = can_sync_dir c.args.job.now (is_renamed c.args.job.now c.requires.paths c.requires.fits c.in-Ok.ensures.told)

pub returns-in-Ok-sync_dir-clause-told : goal.returns-in-Ok-sync_dir-clause-told
returns-in-Ok-sync_dir-clause-told g c = are_on c.in-Ok.ensures.told c.in-Ok-sync_dir.ensures.told

pub returns-in-Ok-sync_dir-clause-next : goal.returns-in-Ok-sync_dir-clause-next
returns-in-Ok-sync_dir-clause-next g c = is_synced c.args.job.now (is_renamed c.args.job.now c.requires.paths c.requires.fits c.in-Ok.ensures.told) c.in-Ok-sync_dir.ensures.told

pub returns-in-Err-clause-refused : goal.returns-in-Err-clause-refused
returns-in-Err-clause-refused g c = left_as (left_both c.in-Ok.ensures.told c.in-Err.ensures.told) (λ ts h. (refl, h))
