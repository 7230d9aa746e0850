-- What looks show of the members of a family, wherever they stand among others.
use Rattle.std.specs.Prelude.{◌≡◌, ℕ, List, All, Contains, Some, None}
use Rattle.lr_rules.specs.declared.path.Path.{Path}
use Rattle.lr_rules.specs.declared.rule.Naming.{Naming}
use Rattle.lr_rules.specs.Path.{joined}
use Rattle.lr_host.specs.declared.entry.Entry.{Entry}
use Rattle.lr_host.specs.declared.entry.Entry.TheVariants as entry
use Rattle.lr_host.specs.declared.thing.Kind.TheVariants as kind
use Rattle.lr_host.specs.declared.thing.Seen.{Seen}
use Rattle.lr_host.specs.Lists.{IsIn}
use Rattle.lr_family.specs.declared.stand.Member.{Member}
use Rattle.lr_family.specs.Parts.{IsMember}
use Rattle.lr_family.specs.Places.{AreNamed}
use Rattle.lr_family.specs.Stands.{AreNewestFirst}
use Rattle.lr_family.specs.Looks.{WasSeen}
use Rattle.lr_laws_family.specs.Members.{NoMemberHas}

-- a look at the path saw a regular file
abbrev pub SawFile : Path → List Entry → Type 0
SawFile x ts = (seen : Seen) × (seen.kind ≡ kind.File) × IsIn (entry.Look x (Some seen)) ts

-- a look at the path saw a directory
abbrev pub SawDir : Path → List Entry → Type 0
SawDir x ts = (seen : Seen) × (seen.kind ≡ kind.Dir) × IsIn (entry.Look x (Some seen)) ts

-- none of the names is the path's in the directory
abbrev pub IsUnlisted : Path → List (List ℕ) → Path → Type 0
IsUnlisted dir names x = (name : List ℕ) → Contains names name → x ≡ joined dir name → ⊥

-- The looks show that nothing has the path, of a member in this directory: that was listed, and the path isn't in the list; or a
-- look at the path saw nothing; or one at the directory did.
pub data IsUnseen (dir x : Path) (ts : List Entry) : Type 0 where
  unlisted : (names : List (List ℕ)) → IsIn (entry.List dir names) ts → IsUnlisted dir names x → IsUnseen dir x ts
  gone : IsIn (entry.Look x None) ts → IsUnseen dir x ts
  no_dir : IsIn (entry.Look dir None) ts → IsUnseen dir x ts

-- Looks among these entries, in any order, show that these members stand, each a regular file, the newest first, and that no other
-- does.
pub record Shown (n : Naming) (members : List Member) (ts : List Entry) : Type 0 where
  pub newest_first : AreNewestFirst members
  pub named : AreNamed n members
  pub files : All (WasSeen ts) members
  pub others : (x : Path) → IsMember n x → NoMemberHas members x → IsUnseen n.dir x ts
