use Rattle.std.proofs.Common.{refl}
use Rattle.lr_host.proofs.Left.{left_as}
use Rattle.lr_copy.proofs.Pieces.{all_name_none}
use Rattle.lr_copy.proofs.Places.{can_read, can_append, name_still}
use Rattle.lr_copy.proofs.opening.fill_bytes.Goals as goal

pub copy_bytes-requires-clause-read : goal.copy_bytes-requires-clause-read
copy_bytes-requires-clause-read g c = can_read c.args.job.now c.requires.fits

pub copy_bytes-requires-clause-append : goal.copy_bytes-requires-clause-append
copy_bytes-requires-clause-append g c = can_append c.args.job.now c.requires.fits

pub returns-in-Ok-clause-next : goal.returns-in-Ok-clause-next
returns-in-Ok-clause-next g c =
    let job = c.args.job.now in name_still job c.requires.fits c.in-Ok.ensures.told (λ ts a. all_name_none job.from job.part job.limit c.in-Ok.copied ts a)

pub returns-in-Err-Read-clause-refused : goal.returns-in-Err-Read-clause-refused
returns-in-Err-Read-clause-refused g c = left_as (rw c.in-Err-Read.field-0-is at c.in-Err-Read.ensures.refused) (λ ts h. (refl, h))

pub returns-in-Err-Append-clause-refused : goal.returns-in-Err-Append-clause-refused
returns-in-Err-Append-clause-refused g c = left_as (rw c.in-Err-Append.field-0-is at c.in-Err-Append.ensures.refused) (λ ts h. (refl, h))

pub returns-in-Err-TooLong-clause-refused : goal.returns-in-Err-TooLong-clause-refused
returns-in-Err-TooLong-clause-refused g c = left_as (rw c.in-Err-TooLong.field-0-is at c.in-Err-TooLong.ensures.refused) (λ ts h. (refl, h))
