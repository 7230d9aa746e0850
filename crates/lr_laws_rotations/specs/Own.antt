-- The names that a log's rotation changes, among all logs of a run.
use Rattle.std.specs.Prelude.{◌≡◌, ◌≢◌, ◌⊎◌, List}
use Rattle.lr_rules.specs.declared.path.Path.{Path}
use Rattle.lr_rules.specs.declared.rule.Naming.{Naming}
use Rattle.lr_rules.specs.Names.{IsOwnName, IsName, IsBesideLog}
use Rattle.lr_host.specs.declared.entry.Entry.{Entry}
use Rattle.lr_host.specs.declared.entry.Entry.TheVariants.{MakesDir}
use Rattle.lr_host.specs.Lists.{IsIn}
use Rattle.lr_laws.specs.Follow.{changed_paths}
use Rattle.lr_family.specs.Parts.{IsMember, IsMembersPart}
use Rattle.lr_laws_family.specs.Members.{IsNoMember}
use Rattle.lr_laws_rotations.specs.AllTurns.{IsItsDir}
use Rattle.lr_laws_rotations.specs.Target.{Target}

-- the path is the log, the one beside it, a member, or the part file of one
abbrev pub IsOfFamily : Path → Naming → Path → Type 0
IsOfFamily log n x = (x ≡ log) ⊎ (IsMember n x ⊎ (IsMembersPart n x ⊎ IsBesideLog log n x))

-- each path that the entry changes is such a one
abbrev pub ChangesOfFamily : Path → Naming → Entry → Type 0
ChangesOfFamily log n e = (x : Path) → IsIn x (changed_paths e) → IsOfFamily log n x

-- each path that the entry changes is a name of the log's family
abbrev pub ChangesOwn : Path → Naming → Entry → Type 0
ChangesOwn log n e = (x : Path) → IsIn x (changed_paths e) → IsOwnName log n x

-- each path that the entry changes is one of the set's, which may be the directory of the family
abbrev pub ChangesNames : Path → Naming → Entry → Type 0
ChangesNames log n e = (x : Path) → IsIn x (changed_paths e) → IsName log n x

-- the entry makes the directory that the rotation makes
abbrev pub MakesItsDir : Target → Entry → Type 0
MakesItsDir t (MakesDir x mode) = IsItsDir t x
MakesItsDir t _ = ⊥

-- none of these paths is the log's or a member's
abbrev pub LieOutside : List Path → Path → Naming → Type 0
LieOutside paths log n = (x : Path) → IsIn x paths → (x ≢ log) × IsNoMember n x
