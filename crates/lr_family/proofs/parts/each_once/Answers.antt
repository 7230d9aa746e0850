use Rattle.lr_family.proofs.PartNames.{parts_once}
use Rattle.lr_family.proofs.parts.each_once.Goals as goal

pub returns : goal.returns
returns c = parts_once c.args.naming.now c.args.names.now c.args.paths.now.items c.leave_once.new.paths.items c.requires c.leave_once.ensures
