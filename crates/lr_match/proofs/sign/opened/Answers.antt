use Rattle.std.proofs.Common.{refl}
use Rattle.std.specs.Str.{chars}
use Rattle.lr_match.specs.Signs.{BeginsWithSign}
use Rattle.lr_match.proofs.Signs.{lone_bracket}
use Rattle.lr_match.proofs.Classes.{no_class_behind}
use Rattle.lr_match.proofs.sign.opened.Goals as goal

pub returns-in-Some-clause-begins : goal.returns-in-Some-clause-begins
returns-in-Some-clause-begins g c = BeginsWithSign.of_class c.in-Some.class (chars c.args.behind.now) (chars c.in-Some.class.rest.now) refl c.in-Some.ensures.class

pub returns-in-None-clause-begins : goal.returns-in-None-clause-begins
returns-in-None-clause-begins g c = lone_bracket (chars c.args.behind.now) c.in-None.ensures.none

pub returns-then-not-closes-clause-begins : goal.returns-then-not-closes-clause-begins
returns-then-not-closes-clause-begins g c = lone_bracket (chars c.args.behind.now) (no_class_behind (chars c.args.behind.now) (c.requires.closes c.if-not-closes.true))
