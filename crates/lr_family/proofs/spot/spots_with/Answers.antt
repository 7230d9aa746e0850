use Rattle.lr_family.proofs.Among.{has_these}
use Rattle.lr_family.proofs.spot.spots_with.Goals as goal

pub returns : goal.returns
returns c = has_these c.args.naming.now c.args.names.now c.names_with.result.now c.bytes.result.now c.spots_in.result c.bytes.ensures.bytes c.names_with.ensures.among c.names_with.ensures.all c.spots_in.ensures
