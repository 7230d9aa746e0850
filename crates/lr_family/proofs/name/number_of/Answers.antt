use Rattle.std.proofs.Common.{refl}
use Rattle.lr_rules.specs.Path.{joined}
use Rattle.lr_family.proofs.Names.{not_numbered}
use Rattle.lr_family.proofs.Unique.{as_member}
use Rattle.lr_family.proofs.name.number_of.Goals as goal

pub returns-in-Some : goal.returns-in-Some
returns-in-Some c = (c.requires, as_member c.args.naming.now c.in-Some.place (joined c.args.naming.now.dir c.args.name.now) c.args.name.now refl c.in-Some.ensures)

pub returns-in-None : goal.returns-in-None
returns-in-None c = not_numbered c.args.naming.now c.args.name.now c.requires c.in-None.ensures
