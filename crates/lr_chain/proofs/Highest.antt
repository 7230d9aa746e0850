-- Members with the highest number.
use Rattle.std.proofs.Common.{◌≡◌, ℕ, ◌+◌, ◌<◌, true, None, List, length, get_or, sym, ap, ◌∙◌, subst, eqb-true}
use Rattle.std.specs.List.{list_any}
use Rattle.std.proofs.lemmas.List.Folds.{list_any_at}
use Rattle.lr_rules.specs.declared.path.Path.{Path}
use Rattle.lr_rules.specs.declared.rule.Naming.{Naming}
use Rattle.lr_rules.specs.Path.{joined}
use Rattle.lr_family.specs.declared.place.Place.{Place}
use Rattle.lr_family.specs.declared.stand.Member.{Member}
use Rattle.lr_family.specs.Named.{member_name}
use Rattle.lr_family.specs.Places.{IsPlaceOf, AreNamed}
use Rattle.lr_family.specs.Stands.{number_in}
use Rattle.lr_family.proofs.Placed.{numbered_at}
use Rattle.lr_chain.specs.Ready.{is_highest, highest_path}

by_place : (n : Naming) (place : Place) (path : Path) → n.dated ≡ None → IsPlaceOf n place path → n.start + number_in place ≡ 4294967295 → path ≡ highest_path n
by_place n place path numbered named e = let m = numbered_at n place path numbered named in m.named ∙ ap (λ (i : ℕ). joined n.dir (member_name n i)) e

pub path_is : (n : Naming) (m : Member) → n.dated ≡ None → IsPlaceOf n m.place m.path → is_highest n m ≡ true → m.path ≡ highest_path n
path_is n m numbered named e = by_place n m.place m.path numbered named (eqb-true (n.start + number_in m.place) 4294967295 e)

-- one of them stands there
pub some_highest : (n : Naming) (members : List Member) (i : ℕ) (m : Member) → n.dated ≡ None → AreNamed n members → m ≡ get_or members i m → i < length members → is_highest n m ≡ true
    → (list_any (is_highest n) members ≡ true) × (m.path ≡ highest_path n)
some_highest n members i m numbered named is lt e = (
  list_any_at (is_highest n) members i m lt (ap (is_highest n) (sym is) ∙ e),
  path_is n m numbered (subst (λ (x : Member). IsPlaceOf n x.place x.path) (sym is) (named i m lt)) e,
)
