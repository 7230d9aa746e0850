use Rattle.std.proofs.Common.{◌∷◌, ap}
use Rattle.std.specs.Str.{chars}
use Rattle.lr_match.specs.Signs.{BeginsWithSign}
use Rattle.lr_match.proofs.Signs.{plain_sign}
use Rattle.lr_match.proofs.sign.sign_of.Goals as goal

pub returns-then-c-eq42-clause-begins : goal.returns-then-c-eq42-clause-begins
returns-then-c-eq42-clause-begins g c = BeginsWithSign.run (chars c.args.behind.now) (ap (λ x. x ∷ chars c.args.behind.now) c.if-c-eq42.true)

pub returns-then-c-eq63-clause-begins : goal.returns-then-c-eq63-clause-begins
returns-then-c-eq63-clause-begins g c = BeginsWithSign.one (chars c.args.behind.now) (ap (λ x. x ∷ chars c.args.behind.now) c.if-c-eq63.true)

pub returns-clause-begins : goal.returns-clause-begins
returns-clause-begins g c = plain_sign c.args.c (chars c.args.behind.now) c.if-c-eq42.false c.if-c-eq63.false c.if-c-eq91.false c.if-c-eq92.false
