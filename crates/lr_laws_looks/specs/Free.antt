-- No name of a log of a plan is one that the run reserves for itself.
use Rattle.std.specs.Prelude.{List}
use Rattle.std.specs.List.{AllByRecursion}
use Rattle.lr_rules.specs.declared.path.Path.{Path}
use Rattle.lr_rules.specs.Names.{IsName}
use Rattle.lr_host.specs.Lists.{IsIn}
use Rattle.lr_laws_rotations.specs.Target.{Target}

abbrev pub IsFreeOf : List Path → Target → Type 0
IsFreeOf reserved t = (path : Path) → IsIn path reserved → IsName t.log t.naming path → ⊥

abbrev pub AreFreeOf : List Path → List Target → Type 0
AreFreeOf reserved ts = AllByRecursion (IsFreeOf reserved) ts
