use Rattle.lr_family.proofs.PartNames.{has_these}
use Rattle.lr_family.proofs.parts.parts_with.Goals as goal

pub returns : goal.returns
returns c = has_these c.args.naming.now c.args.names.now c.names_with.result.now c.bytes.result.now c.parts_in.result c.bytes.ensures.bytes c.names_with.ensures.among c.names_with.ensures.all c.parts_in.ensures
