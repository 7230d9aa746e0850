use Rattle.std.proofs.Common.{refl, rules}
use Rattle.lr_audited.proofs.Placing.{places_none}
use Rattle.lr_audited.proofs.knowing.known_of.Goals as goal

pub loop-line-init : goal.loop-line-init
loop-line-init c = record { all = refl; long = search rules; lines = search rules; indexed = places_none _ _ c.new-2.ensures.items c.new.ensures.empty }
