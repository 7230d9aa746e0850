-- A log whose rotation has names for all its members.
use Rattle.std.specs.Prelude.{◌≡◌, ◌≢◌, ◌≤◌, true, List, [], ◌∷◌}
use Rattle.lr_rules.specs.declared.path.Path.{Path}
use Rattle.lr_rules.specs.Names.{aside_path}
use Rattle.lr_rules.specs.declared.clock.Clock.{Clock}
use Rattle.lr_rules.specs.Limits.{IsCount}
use Rattle.lr_chain.specs.Hindrances.{what_hinders}
use Rattle.lr_family.specs.Parts.{part_of, IsMember}
use Rattle.lr_family.specs.Places.{AreNamed}
use Rattle.lr_family.specs.Stands.{AreNewestFirst}
use Rattle.lr_laws_family.specs.Members.{IsFamily, IsNoMember}
use Rattle.lr_laws_rotations.specs.Target.{Target, IsReadyBy, HasWay, HasDir, TargetHasJob}

-- Each member that was seen, the newest first, has the path of its place; the count and the first number are such as a rule in its
-- limits gives; and nothing hinders the rotation by some clock: so each member has a name that it comes to, and so has the log. The
-- rotation that is ready is theirs, and so are the directory and the copy. The path where the log waits that is set aside is no
-- member's, and the log's is none of a part file.
pub record HasNames (t : Target) : Type 0 where
  pub family : IsFamily t.log t.naming
  pub newest_first : AreNewestFirst t.stand.members
  pub named : AreNamed t.naming t.stand.members
  pub count : IsCount t.count
  pub start : t.naming.start ≤ 999999
  pub clock : Clock
  pub free : what_hinders t.naming t.count clock t.stand ≡ []
  pub ready : IsReadyBy clock t
  pub way : HasWay t
  pub beside : t.naming.aside ≡ true → IsNoMember t.naming (aside_path t.log)
  pub parts : (member : Path) → IsMember t.naming member → part_of member ≢ t.log
  pub dir : HasDir t
  pub job : TargetHasJob t

abbrev pub TargetsHaveNames : List Target → Type 0
TargetsHaveNames [] = Unit {0}
TargetsHaveNames (t ∷ ts) = HasNames t × TargetsHaveNames ts
