use Rattle.std.proofs.Common.{◌∷◌, ap}
use Rattle.std.specs.Str.{chars}
use Rattle.lr_match.specs.Signs.{BeginsWithSign}
use Rattle.lr_match.proofs.Signs.{last_backslash}
use Rattle.lr_match.proofs.sign.escaped.Goals as goal

pub returns-in-Some-clause-begins : goal.returns-in-Some-clause-begins
returns-in-Some-clause-begins g c = BeginsWithSign.escaped c.in-Some.c (chars c.in-Some.rest.now) (ap (λ t. 92 ∷ t) c.in-Some.ensures.first)

pub returns-in-None-clause-begins : goal.returns-in-None-clause-begins
returns-in-None-clause-begins g c = last_backslash (chars c.args.behind.now) c.in-None.ensures.first
