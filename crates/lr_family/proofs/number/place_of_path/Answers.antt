use Rattle.std.proofs.Common.{◌≡◌, ℕ, List, Option, Some, None}
use Rattle.std.specs.Prelude.{MatchOption}
use Rattle.lr_rules.specs.declared.path.Path.{Path}
use Rattle.lr_rules.specs.declared.rule.Naming.{Naming}
use Rattle.lr_rules.specs.Names.{IsMemberAt}
use Rattle.lr_rules.specs.Path.{joined}
use Rattle.lr_family.specs.Named.{IsNamedAt}
use Rattle.lr_family.proofs.Unique.{as_named, as_member}
use Rattle.lr_family.proofs.number.place_of_path.Goals as goal

by_name : (n : Naming) (x : Path) (name : List ℕ) (r : Option ℕ) → x ≡ joined n.dir name → MatchOption r ((place : ℕ) → IsNamedAt n place name → ⊥) (λ place. IsNamedAt n place name) → MatchOption r ((place : ℕ) → IsMemberAt n place x → ⊥) (λ place. IsMemberAt n place x)
by_name n x name None e h = λ place m. h place (as_named n place x name e m)
by_name n x name (Some place) e h = as_member n place x name e h

pub returns-in-Some : goal.returns-in-Some
returns-in-Some c = by_name c.args.naming.now c.args.path.now c.in-Some.name.now c.place_of_name.result c.in-Some.ensures c.place_of_name.ensures
