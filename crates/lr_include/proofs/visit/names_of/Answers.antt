use Rattle.lr_host.proofs.Left.{left_as}
use Rattle.lr_include.proofs.visit.names_of.Goals as goal

pub returns-in-Ok-clause-told : goal.returns-in-Ok-clause-told
returns-in-Ok-clause-told g c = left_as c.in-Ok.ensures.told (λ ts h. (c.in-Ok.ensures.rising, h))
