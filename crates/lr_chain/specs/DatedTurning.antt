-- How the members of a dated family stand once the log is one of them, and what its rotation makes of them.
use Rattle.std.specs.Prelude.{◌≡◌, ◌≢◌, ℕ, suc, ◌||◌, List, [], ◌∷◌, map, ℤ, cond}
use Rattle.lr_rules.specs.declared.path.Path.{Path}
use Rattle.lr_rules.specs.declared.rule.Count.{Count}
use Rattle.lr_rules.specs.declared.rule.Naming.{Naming}
use Rattle.lr_rules.specs.Dated.{IsDatedAt}
use Rattle.lr_host.specs.declared.thing.Thing.TheVariants as thing
use Rattle.lr_host.specs.Lists.{IsNotIn}
use Rattle.lr_host.specs.World.{Names, Moves, changed}
use Rattle.lr_host.specs.Fits.{IsFileAt}
use Rattle.lr_chain.specs.DatedRotation.{Ranked, AreFalling, AreDatedAt}
use Rattle.lr_chain.specs.Rotation.{is_left}

-- each names a file
abbrev pub AreFiles : Names → List Ranked → Type 0
AreFiles n [] = Unit {0}
AreFiles n (m ∷ ms) = IsFileAt n m.path × AreFiles n ms

-- the path is none of theirs
abbrev pub IsOutside : Path → List Ranked → Type 0
IsOutside x all = IsNotIn x (map (λ m. m.path) all)

-- The log is a regular file; nothing has the target's path, and once the log has it, just these members name something, the newest
-- first, and each a file.
pub record StandSo (n : Naming) (log target : Path) (all : List Ranked) (m : Names) : Type 0 where
  pub log_file : IsFileAt m log
  pub free : m target ≡ thing.Nothing
  pub falling : AreFalling all
  pub named : AreDatedAt n all
  pub files : AreFiles (changed (Moves log target) m) all
  pub others : (x : Path) (seconds : ℤ) (serial : ℕ) → IsDatedAt n seconds serial x → IsOutside x all
      → changed (Moves log target) m x ≡ thing.Nothing

-- of these members, the newest first, of which the first has so many later ones: those that go name nothing, the others what they
-- named
abbrev pub AreTurned : Count → ℕ → List Ranked → Names → Names → Type 0
AreTurned c later [] before after = Unit {0}
AreTurned c later (m ∷ ms) before after = (after m.path ≡ cond (is_left c later || m.old) thing.Nothing (before m.path))
    × AreTurned c (suc later) ms before after

-- The family was turned: of the members and the log's file under its new name the latest stay, as many as the count says, less
-- those that were too old, each with its file; no other member names anything, nothing has the log's path, and each other path
-- names what it named.
pub record IsDatedTurned (n : Naming) (log target : Path) (c : Count) (all : List Ranked) (before after : Names) : Type 0 where
  pub members : AreTurned c 0 all (changed (Moves log target) before) after
  pub none_else : (x : Path) (seconds : ℤ) (serial : ℕ) → IsDatedAt n seconds serial x → IsOutside x all → after x ≡ thing.Nothing
  pub log_gone : after log ≡ thing.Nothing
  pub others : (x : Path) → x ≢ log → x ≢ target → IsOutside x all → after x ≡ before x
