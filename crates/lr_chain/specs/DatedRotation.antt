-- The entries of one rotation of a dated family, by the members that are there once the log is one of them.
use Rattle.std.specs.Prelude.{ℕ, suc, Bool, ◌||◌, List, [], ◌∷◌, map, reverse, ℤ, ◌<ℤ◌, if◌then◌else◌}
use Rattle.lr_rules.specs.declared.path.Path.{Path}
use Rattle.lr_rules.specs.declared.rule.Count.{Count}
use Rattle.lr_rules.specs.declared.rule.Naming.{Naming}
use Rattle.lr_rules.specs.Dated.{stamp_key, IsDatedAt}
use Rattle.lr_host.specs.declared.entry.Entry.{Entry}
use Rattle.lr_host.specs.declared.entry.Entry.TheVariants.{Renames, Unlinks}
use Rattle.lr_chain.specs.Rotation.{is_left}

-- A dated member: its path, the seconds of its stamp, its serial number, and whether it was seen older than the rule keeps.
pub record Ranked : Type 0 where
  pub path : Path
  pub seconds : ℤ
  pub serial : ℕ
  pub old : Bool

abbrev pub key_of : Ranked → ℤ
key_of m = stamp_key m.seconds m.serial

-- of these members, the newest first, of which the first has so many later ones: those that go
abbrev pub gone : Count → ℕ → List Ranked → List Ranked
gone c later [] = []
gone c later (m ∷ ms) = if is_left c later || m.old then m ∷ gone c (suc later) ms else gone c (suc later) ms

abbrev pub unlink : Ranked → Entry
unlink m = Unlinks m.path

-- One rotation: the log goes to its dated name, and then those go that are too many or too old, the oldest first.
abbrev pub dated_rotation : Count → Path → Path → List Ranked → List Entry
dated_rotation c log target all = Renames log target ∷ reverse (map unlink (gone c 0 all))

-- each of these is older than the member with this key
abbrev pub AreBelow : ℤ → List Ranked → Type 0
AreBelow key [] = Unit {0}
AreBelow key (m ∷ ms) = (key_of m <ℤ key) × AreBelow key ms

-- the newest first
abbrev pub AreFalling : List Ranked → Type 0
AreFalling [] = Unit {0}
AreFalling (m ∷ ms) = AreBelow (key_of m) ms × AreFalling ms

-- each has the path of the dated member with its stamp and serial number
abbrev pub AreDatedAt : Naming → List Ranked → Type 0
AreDatedAt n [] = Unit {0}
AreDatedAt n (m ∷ ms) = IsDatedAt n m.seconds m.serial m.path × AreDatedAt n ms
