use Rattle.lr_conf.proofs.Limits.{from_new}
use Rattle.lr_conf.proofs.layer.Layer.new.Goals as goal

pub invariant_of-result : goal.invariant_of-result
invariant_of-result c = record { limits = from_new c.in_ok-new.field-0 c.in_ok-new.ensures.means }
