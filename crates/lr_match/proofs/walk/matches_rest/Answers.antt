use Rattle.std.proofs.Common.{◌≤◌, length, arith}
use Rattle.std.specs.Str.{chars}
use Rattle.lr_match.proofs.Counts.{rest_fits}
use Rattle.lr_match.proofs.walk.matches_rest.Goals as goal

pub returns-in-Run-clause-few : goal.returns-in-Run-clause-few
returns-in-Run-clause-few g c =
    let reaches = c.in-Run.ensures.reaches in
    let same : length (chars c.args.pattern.now) ≤ length (chars c.args.pattern.now) = omega arith in
    let shorter = reaches.1 in
    rest_fits (length (chars c.args.pattern.now)) (length (chars c.in-Run.behind.now)) (length (chars c.args.name.now)) (length (chars c.in-Run.rest.now)) _ _ _ _ reaches.1 reaches.2 (c.in-Run.ensures.few (length (chars c.args.pattern.now)) same)
    (c.matches_somewhere.ensures.few (length (chars c.args.pattern.now)) (omega (arith, shorter)))
