use Rattle.std.proofs.Common.{ap, ◌∷◌}
use Rattle.std.specs.Str.{chars}
use Rattle.lr_rules.specs.Match.{ranges_have}
use Rattle.lr_match.specs.Classes.{before_close}
use Rattle.lr_match.proofs.Classes.{not_range}
use Rattle.lr_match.proofs.class.member.Goals as goal

pub returns-in-Some-clause-has : goal.returns-in-Some-clause-has
returns-in-Some-clause-has g c = λ x. ap (λ s. ranges_have (c.args.from ∷ s) x) c.in-Some.ensures.end.0

pub returns-in-None-clause-has : goal.returns-in-None-clause-has
returns-in-None-clause-has g c = not_range c.args.from (before_close (chars c.args.behind.now)) c.in-None.ensures.end
