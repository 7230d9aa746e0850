use Rattle.lr_family.proofs.Middles.{no_middle, by_dot}
use Rattle.lr_family.proofs.number.middle.Goals as goal

pub returns-in-Some : goal.returns-in-Some
returns-in-Some c = by_dot c.args.base.now c.args.ext.now c.args.name.now c.in-Some.rest.now c.strip_prefix.result c.in-Some.ensures c.strip_prefix.ensures.cases

pub returns-in-None : goal.returns-in-None
returns-in-None c = no_middle c.args.base.now c.args.ext.now c.args.name.now c.in-None.ensures
