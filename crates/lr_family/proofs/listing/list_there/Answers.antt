use Rattle.std.proofs.Common.{refl}
use Rattle.lr_host.proofs.Left.{left_as}
use Rattle.lr_family.proofs.listing.list_there.Goals as goal

pub returns-in-Err-Failed-clause-stopped : goal.returns-in-Err-Failed-clause-stopped
returns-in-Err-Failed-clause-stopped g c = left_as c.in-Err-Failed.ensures.stopped (λ ts t. (refl, refl, t))
