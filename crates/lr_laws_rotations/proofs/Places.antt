-- The members of a family that stand, by their places.
use Rattle.std.specs.Prelude.{◌≡◌, ◌≢◌, ◌⊎◌, ◌+◌, ℕ, suc, true, List, reverse, All, Contains, Some, None}
use Rattle.std.specs.List.Sorted.{IsStrictlyIncreasing}
use Rattle.lr_rules.specs.declared.path.Path.{Path}
use Rattle.lr_rules.specs.declared.rule.Count.{Count}
use Rattle.lr_rules.specs.declared.rule.Naming.{Naming}
use Rattle.lr_rules.specs.Path.{path_fault}
use Rattle.lr_host.specs.declared.entry.Entry.{Entry}
use Rattle.lr_host.specs.declared.entry.Entry.TheVariants as entry
use Rattle.lr_host.specs.declared.thing.Kind.TheVariants as kind
use Rattle.lr_host.specs.declared.thing.Seen.{Seen}
use Rattle.lr_host.specs.declared.thing.Thing.TheVariants as thing
use Rattle.lr_host.specs.World.{Names, Past, world, names}
use Rattle.lr_host.specs.Fits.{IsFileAt}
use Rattle.lr_host.specs.Lists.{IsIn}
use Rattle.lr_host.specs.Released.{ByAge}
use Rattle.lr_host.specs.Runs.{rules_of, SomeRule}
use Rattle.lr_host.specs.Sets.{LogSet}
use Rattle.lr_family.specs.Kin.{IsKin}
use Rattle.lr_family.specs.Named.{member_name}
use Rattle.lr_family.specs.Spots.{path_at}
use Rattle.lr_chain.specs.Rotation.{is_left}
use Rattle.lr_laws_family.specs.Numbered.{HasName}

-- The log and the naming are those of a numbered family, whose directory has a path.
pub record IsFamily (log : Path) (n : Naming) : Type 0 where
  pub numbered : n.dated ≡ None
  pub kin : IsKin log n
  pub dir : path_fault n.dir ≡ None

-- the path is no member's
abbrev pub IsNoMember : Naming → Path → Type 0
IsNoMember n x = (place : ℕ) → HasName n place → x ≢ path_at n place

-- Under these names the members at these places stand, the highest first, each a regular file; no other member's path names anything.
pub record AreThere (n : Naming) (m : Names) (places : List ℕ) : Type 0 where
  pub falling : IsStrictlyIncreasing (reverse places)
  pub named : All (HasName n) places
  pub files : (place : ℕ) → Contains places place → IsFileAt m (path_at n place)
  pub others : (place : ℕ) → HasName n place → (Contains places place → ⊥) → m (path_at n place) ≡ thing.Nothing

-- The members at these places may go behind one move more: the count leaves no room for one at its new place, or a rule of the log lets its file go by its age.
abbrev pub MayGo : LogSet → Past → Count → List ℕ → Type 0
MayGo s p c from = (place : ℕ) → Contains from place → (is_left c (suc place) ≡ true) ⊎ ((g : ℕ) → names (world p) (path_at s.naming place) ≡ thing.File g → SomeRule (rules_of p) s.log (ByAge p g))

-- ---- what looks show of them

-- The looks show that no member stands at the place: the directory was listed, and its name isn't in the list; or a look at it saw nothing; or one at the directory did.
pub data IsUnseen (n : Naming) (place : ℕ) (ts : List Entry) : Type 0 where
  unlisted : (names : List (List ℕ)) → IsIn (entry.List n.dir names) ts → (Contains names (member_name n (n.start + place)) → ⊥) → IsUnseen n place ts
  gone : IsIn (entry.Look (path_at n place) None) ts → IsUnseen n place ts
  no_dir : IsIn (entry.Look n.dir None) ts → IsUnseen n place ts

-- Looks among these entries, in any order, show that the members at these places stand, each a regular file, the highest first, and that no other does.
pub record Shown (n : Naming) (places : List ℕ) (ts : List Entry) : Type 0 where
  pub falling : IsStrictlyIncreasing (reverse places)
  pub named : (place : ℕ) → Contains places place → HasName n place
  pub files : (place : ℕ) → Contains places place → (seen : Seen) × (seen.kind ≡ kind.File) × IsIn (entry.Look (path_at n place) (Some seen)) ts
  pub others : (place : ℕ) → HasName n place → (Contains places place → ⊥) → IsUnseen n place ts
