-- The member at a place.
use Rattle.std.specs.Prelude.{◌≡◌, List, All, None}
use Rattle.lr_rules.specs.declared.path.Path.{Path}
use Rattle.lr_rules.specs.declared.rule.Naming.{Naming}
use Rattle.lr_rules.specs.Dated.{IsDatedAt}
use Rattle.lr_rules.specs.Names.{IsMemberAt}
use Rattle.lr_family.specs.declared.place.Place.{Place}
use Rattle.lr_family.specs.declared.place.Place.TheVariants as at
use Rattle.lr_family.specs.declared.stand.Member.{Member}

-- The path is that of the member at this place: numbers are places of a numbered family, stamps of a dated one.
abbrev pub IsPlaceOf : Naming → Place → Path → Type 0
IsPlaceOf n (at.Number place) x = (n.dated ≡ None) × IsMemberAt n place x
IsPlaceOf n (at.Stamp seconds serial) x = IsDatedAt n seconds serial x

-- Each member has the path of its place.
abbrev pub AreNamed : Naming → List Member → Type 0
AreNamed n members = All (λ m. IsPlaceOf n m.place m.path) members
