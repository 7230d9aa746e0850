use Rattle.std.proofs.Common.{ℕ, subst}
use Rattle.lr_rules.specs.Names.{IsMemberAt}
use Rattle.lr_family.proofs.Unique.{read_place}
use Rattle.lr_family.proofs.family.number_place.Goals as goal

pub returns-in-Some-clause-numbers : goal.returns-in-Some-clause-numbers
returns-in-Some-clause-numbers c = λ place. (λ e. subst (λ (k : ℕ). IsMemberAt c.args.naming.now k c.args.path.now) (let same = e in cc) c.in-Some.ensures, λ m. read_place c.args.naming.now c.in-Some.place place c.args.path.now c.in-Some.ensures m)
