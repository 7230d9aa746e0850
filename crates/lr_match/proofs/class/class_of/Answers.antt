use Rattle.std.specs.Str.{chars}
use Rattle.lr_match.proofs.Classes.{class_by}
use Rattle.lr_match.proofs.class.class_of.Goals as goal

pub returns-clause-class : goal.returns-clause-class
returns-clause-class g c = class_by (chars c.args.behind.now) (chars c.turned-turned.result.1.now) (chars c.in_ok-rest.rest.now) c.turned-turned.result.0 c.turned-turned.ensures.turn c.in_ok-rest.ensures.close
