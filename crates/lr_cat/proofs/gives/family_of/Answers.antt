use Rattle.std.proofs.Common.{None, ◌≡◌, subst}
use Rattle.lr_rules.specs.declared.rule.Naming.{Naming}
use Rattle.lr_rules.specs.Path.{path_fault}
use Rattle.lr_cat.proofs.Giving.{is_family, kin_for}
use Rattle.lr_cat.proofs.gives.family_of.Goals as goal

pub of-requires : goal.of-requires
of-requires c = record { kin = kin_for c.args.rule.now c.args.log.now c.in_ok-log.log c.in_ok-naming.naming c.in_ok-log.ensures c.in_ok-naming.ensures.naming c.requires.rule c.bytes-bytes.ensures.path c.requires.size c.requires.last }

pub returns-clause-is_family : goal.returns-clause-is_family
returns-clause-is_family c = is_family c.args.rule.now c.args.log.now c.requires.rule c.bytes-bytes.ensures.path c.requires.size c.requires.last (subst (λ (m : Naming). path_fault m.dir ≡ None) c.in_ok-naming.ensures.naming c.in_ok-naming.ensures.dir)
