use Rattle.std.proofs.Common.{◌≡◌, None, sym, subst}
use Rattle.lr_rules.specs.declared.rule.Naming.{Naming}
use Rattle.lr_rules.specs.Path.{path_fault}
use Rattle.lr_family.specs.Kin.{IsKin}
use Rattle.lr_looks.proofs.Kindred.{kin_of}
use Rattle.lr_looks.proofs.naming.family_of.Goals as goal

pub of-requires : goal.of-requires
of-requires c = record {
  kin = subst (λ (n : Naming). IsKin c.args.log n) (sym c.in_ok-naming.ensures.naming)
      (kin_of c.args.rule.now c.args.log c.requires.rule c.bytes-bytes.ensures.path c.requires.size c.requires.last);
}

pub returns-clause-dir : goal.returns-clause-dir
returns-clause-dir c = subst (λ (n : Naming). path_fault n.dir ≡ None) c.in_ok-naming.ensures.naming c.in_ok-naming.ensures.dir
