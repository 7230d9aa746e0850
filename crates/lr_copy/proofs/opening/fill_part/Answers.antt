use Rattle.std.proofs.Common.{refl, ap}
use Rattle.std.specs.Prelude.{filter}
use Rattle.lr_host.specs.Steps.{is_naming}
use Rattle.lr_host.proofs.Left.{left_as, left_both}
use Rattle.lr_copy.proofs.Places.{can_sync, name_still}
use Rattle.lr_copy.proofs.opening.fill_part.Goals as goal

pub sync_file-requires : goal.sync_file-requires
sync_file-requires g c = can_sync c.args.job.now c.in-Ok.ensures.next

pub returns-in-Ok-sync_file-clause-told : goal.returns-in-Ok-sync_file-clause-told
returns-in-Ok-sync_file-clause-told g c = left_both c.in-Ok.ensures.told c.in-Ok-sync_file.ensures.told

pub returns-in-Ok-sync_file-clause-next : goal.returns-in-Ok-sync_file-clause-next
returns-in-Ok-sync_file-clause-next g c = name_still c.args.job.now c.in-Ok.ensures.next c.in-Ok-sync_file.ensures.told (λ ts t. ap (filter is_naming) t)

pub returns-in-Err-sync_file-clause-refused : goal.returns-in-Err-sync_file-clause-refused
returns-in-Err-sync_file-clause-refused g c = left_as (left_both c.in-Ok.ensures.told c.in-Err-sync_file.ensures.told) (λ ts h. (refl, (c.in-Ok.copied, h)))
