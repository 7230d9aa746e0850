-- The names of a family's members and of their part files, and what was seen of the members.
use Rattle.std.proofs.Common.{◌≡◌, ℕ, false, List, [], ◌∷◌, ◌++◌, refl, ◌∙◌, ap, append_assoc, if◌then◌else◌}
use Rattle.std.specs.Prelude.{◌==◌, length}
use Rattle.std.proofs.lemmas.List.Elements.{All-contains}
use Rattle.lr_rules.specs.declared.path.Path.{Path}
use Rattle.lr_rules.specs.declared.rule.Naming.{Naming}
use Rattle.lr_rules.specs.Match.{part_end}
use Rattle.lr_rules.specs.Path.{is_empty}
use Rattle.lr_rules.proofs.PathLemmas.{plain_both}
use Rattle.lr_host.specs.declared.entry.Entry.{Entry}
use Rattle.lr_host.specs.Fits.{IsPart, IsNameIn}
use Rattle.lr_host.specs.Lists.{IsIn}
use Rattle.lr_host.proofs.Lists.{in_to}
use Rattle.lr_family.specs.declared.stand.Member.{Member}
use Rattle.lr_family.specs.Parts.{part_of, IsMember, IsMembersPart}
use Rattle.lr_family.specs.Looks.{WasSeen}
use Rattle.lr_laws_family.specs.Shown.{Shown, SawFile, IsUnseen}
use Rattle.lr_laws_family.specs.Members.{IsFamily, NoMemberHas}
use Rattle.lr_laws_family.proofs.Directory.{member_in}

-- ---- names

-- a name with the ending of a part file is one too
part_name : (name : List ℕ) → IsPart name → IsPart (name ++ part_end)
part_name name p = (filled name p.0, plain_both name part_end p.1 refl)
  where
    filled : (name : List ℕ) → is_empty name ≡ false → is_empty (name ++ part_end) ≡ false
    filled [] e = refl
    filled (b ∷ bs) e = refl

pub part_in : (log : Path) (n : Naming) (x : Path) → IsFamily log n → IsMembersPart n x → IsNameIn n.dir x
part_in log n x family (member, is, part) =
    let m = member_in log n member family is in
    record { name = m.name ++ part_end; part = part_name m.name m.part; named = part ∙ (ap part_of m.named ∙ append_assoc (if length n.dir == 1 then [] else n.dir) (47 ∷ m.name) part_end) }

-- ---- what was seen of members

-- Each of the members was seen, a regular file; any other isn't in a list of the directory, or a look at it saw nothing, or one at the directory.
pub record WereSeen (n : Naming) (members : List Member) (all : List Entry) : Type 0 where
  pub files : (m : Member) → IsIn m members → SawFile m.path all
  pub others : (x : Path) → IsMember n x → NoMemberHas members x → IsUnseen n.dir x all

pub members_seen : (n : Naming) (members : List Member) (all : List Entry) → Shown n members all → WereSeen n members all
members_seen n members all s = record { files = files; others = s.others }
  where
    files : (m : Member) → IsIn m members → SawFile m.path all
    files m i = let w = All-contains (WasSeen all) members m s.files (in_to m members i) in (m.seen, w.0, w.1)
