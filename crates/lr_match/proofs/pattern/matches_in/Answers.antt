use Rattle.std.proofs.Common.{true, length, ap, arith}
use Rattle.std.specs.Str.{chars}
use Rattle.lr_match.proofs.Counts.{dotted_steps, plain_steps}
use Rattle.lr_match.proofs.Matching.{loosened, tightened}
use Rattle.lr_match.proofs.pattern.matches_in.Goals as goal

pub returns-in-Some-clause-few : goal.returns-in-Some-clause-few
returns-in-Some-clause-few g c =
    let name = ap length c.in-Some.ensures.dot in
    dotted_steps (length (chars c.args.pattern.now)) (length (chars c.args.name.now)) (length (chars c.in-Some.rest.now)) _ _ _ (omega (arith, name)) c.in-Some.ensures.counted c.matches_dotted.ensures.few

pub returns-in-None-clause-matches : goal.returns-in-None-clause-matches
returns-in-None-clause-matches g c = (
  λ t. tightened _ _ _ c.in-None.ensures.dot (c.matches_rest.ensures.matches.0 t),
  λ m. c.matches_rest.ensures.matches.1 (loosened true _ _ m),
)

pub returns-in-None-clause-few : goal.returns-in-None-clause-few
returns-in-None-clause-few g c = plain_steps (length (chars c.args.pattern.now)) (length (chars c.args.name.now)) _ _ _ c.in-None.ensures.counted c.matches_rest.ensures.few
