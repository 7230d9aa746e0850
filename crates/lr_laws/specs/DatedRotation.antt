-- The entries of one rotation of a dated set, as a list.
use Rattle.std.specs.Prelude.{◌≡◌, ◌⊎◌, ℕ, ◌≤◌, Bool, true, false, ◌||◌, List, [], ◌∷◌, length, ℤ, pos, Some, is_some}
use Rattle.lr_rules.specs.declared.path.Path.{Path}
use Rattle.lr_rules.specs.declared.rule.Count.TheVariants.{Keep}
use Rattle.lr_host.specs.declared.thing.Thing.TheVariants as thing
use Rattle.lr_host.specs.declared.entry.Entry.{Entry}
use Rattle.lr_host.specs.declared.entry.Entry.TheVariants.{Renames, Makes, Unlinks}
use Rattle.lr_host.specs.Lists.{AreDistinct}
use Rattle.lr_host.specs.World.{Names, Past, world, names, names_after}
use Rattle.lr_host.specs.Steps.{changes_of}
use Rattle.lr_host.specs.Sets.{LogSet, IsAsideOf, AreLaterMembers}
use Rattle.lr_host.specs.Runs.{rules_of, SomeRule}
use Rattle.lr_laws.specs.Rotation.{IsPastAge, IsAside, IsTurn}

-- As many different members that name files are later than the one with this key as the rule's count says.
pub record IsPastLater (s : LogSet) (p : Past) (n : Names) (key : ℤ) : Type 0 where
  pub count : ℕ
  pub rule : SomeRule (rules_of p) s.log (λ r. r.count ≡ Keep count)
  pub later : List Path
  pub distinct : AreDistinct later
  pub each : AreLaterMembers s.key n key later
  pub enough : count ≤ length later

-- a member got a file by a rename among these entries, or had got one before
abbrev pub turned_behind : LogSet → Bool → List Entry → Bool
turned_behind s turned [] = turned
turned_behind s turned (Renames from to ∷ es) = is_some (s.key to) || turned_behind s turned es
turned_behind s turned (_ ∷ es) = turned_behind s turned es

-- a member got a file by a rename among these entries
abbrev pub is_log_turned : LogSet → List Entry → Bool
is_log_turned s es = turned_behind s false es

-- A step of a rotation that began behind p, where the names are n: as long as no member got a file, the log turns, to a path that
-- names nothing; behind that a member goes that as many later ones follow as the rule's count says, or that was seen too old; what
-- waited aside goes; and the log is made anew.
abbrev pub IsDatedStep : LogSet → Past → ℤ → Names → Bool → Entry → Type 0
IsDatedStep s p newest n turned (Renames from to) = (turned ≡ false) × (n to ≡ thing.Nothing) × IsTurn s n newest from to
IsDatedStep s p newest n turned (Unlinks x) = IsAsideOf s x ⊎ ((turned ≡ true) × (key : ℤ) × (s.key x ≡ Some key)
    × (IsPastLater s p n key ⊎ IsPastAge s p n x))
IsDatedStep s p newest n turned (Makes x mode) = x ≡ s.log
IsDatedStep s p newest n turned _ = ⊥

-- These entries behind p, the newest first, are steps of one rotation of the dated set to the member with this key, or lie aside,
-- where a member had got a file before, or none had.
abbrev pub IsDatedRotationBy : LogSet → Past → ℤ → Bool → List Entry → Type 0
IsDatedRotationBy s p newest turned [] = Unit {0}
IsDatedRotationBy s p newest turned (e ∷ es) = IsDatedRotationBy s p newest turned es
    × (IsAside s e ⊎ IsDatedStep s p newest (names_after (names (world p)) (changes_of es)) (turned_behind s turned es) e)

-- so where none had
abbrev pub IsDatedRotation : LogSet → Past → ℤ → List Entry → Type 0
IsDatedRotation s p newest es = IsDatedRotationBy s p newest false es

-- Steps behind the turn alone: nothing is renamed then, so that no key is the newest.
abbrev pub IsDatedRetirement : LogSet → Past → List Entry → Type 0
IsDatedRetirement s p es = IsDatedRotationBy s p (pos 0) true es
