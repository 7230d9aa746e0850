-- The members of a family that stand, by their paths, be their names numbers or dates.
use Rattle.std.specs.Prelude.{◌≡◌, ◌⊎◌, true, List, map, All, None}
use Rattle.lr_rules.specs.declared.path.Path.{Path}
use Rattle.lr_rules.specs.declared.rule.Naming.{Naming}
use Rattle.lr_rules.specs.Names.{IsMemberAt}
use Rattle.lr_rules.specs.Limits.{is_format, or_none}
use Rattle.lr_rules.specs.Path.{path_fault}
use Rattle.lr_host.specs.declared.thing.Thing.TheVariants as thing
use Rattle.lr_host.specs.Fits.{IsFileAt}
use Rattle.lr_host.specs.Lists.{IsNotIn}
use Rattle.lr_host.specs.World.{Names}
use Rattle.lr_family.specs.declared.stand.Member.{Member}
use Rattle.lr_family.specs.Kin.{IsKin}
use Rattle.lr_family.specs.Parts.{IsMember, IsDated}
use Rattle.lr_family.specs.Places.{AreNamed}
use Rattle.lr_family.specs.Stands.{AreNewestFirst}

-- the path is no member's
abbrev pub IsNoMember : Naming → Path → Type 0
IsNoMember n x = IsMember n x → ⊥

-- The path, which may be the log's, is of no member, and the naming is one of a family: a format of dates meets its limits, and the
-- directory has a path.
pub record IsFamily (log : Path) (n : Naming) : Type 0 where
  pub kin : IsKin log n
  pub format : or_none is_format n.dated ≡ true
  pub dir : path_fault n.dir ≡ None
  pub apart : IsNoMember n log

-- none of the members has the path
abbrev pub NoMemberHas : List Member → Path → Type 0
NoMemberHas members x = IsNotIn x (map (λ m. m.path) members)

-- Under these names just these members stand, the newest first, each a regular file; no other member's path names anything.
pub record AreThere (n : Naming) (m : Names) (members : List Member) : Type 0 where
  pub newest_first : AreNewestFirst members
  pub named : AreNamed n members
  pub files : All (λ member. IsFileAt m member.path) members
  pub others : (x : Path) → IsMember n x → NoMemberHas members x → m x ≡ thing.Nothing

-- The path is the newest place of a numbered family; or any dated one's that none of these members has, be it the newest or not.
abbrev pub IsNewestOf : Naming → List Member → Path → Type 0
IsNewestOf n members x = ((n.dated ≡ None) × IsMemberAt n 0 x) ⊎ (IsDated n x × NoMemberHas members x)
