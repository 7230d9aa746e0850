-- How the members of a rotation stand under the names of a disk, so that its steps fit.
use Rattle.std.specs.Prelude.{◌≡◌, ◌+◌, ◌≤◌, ℕ, suc, true, false, List, reverse, Contains}
use Rattle.std.specs.List.Sorted.{IsStrictlyIncreasing}
use Rattle.lr_rules.specs.declared.path.Path.{Path}
use Rattle.lr_rules.specs.declared.rule.Count.{Count}
use Rattle.lr_rules.specs.declared.rule.Naming.{Naming}
use Rattle.lr_host.specs.declared.thing.Thing.TheVariants as thing
use Rattle.lr_host.specs.World.{Names}
use Rattle.lr_host.specs.Fits.{IsFileAt}
use Rattle.lr_family.specs.Spots.{path_at}
use Rattle.lr_chain.specs.Rotation.{is_left}

-- The log is a regular file; the members at just these places, each below the one before it, are regular files, and nothing
-- has the path of another member.
pub record StandSo (log : Path) (n : Naming) (places : List ℕ) (names : Names) : Type 0 where
  pub falling : IsStrictlyIncreasing (reverse places)
  pub log_file : IsFileAt names log
  pub members : (place : ℕ) → Contains places place → IsFileAt names (path_at n place)
  pub others : (place : ℕ) → n.start + place ≤ 4294967295 → (Contains places place → ⊥) → names (path_at n place) ≡ thing.Nothing

-- Of the members at the first places, those at the second go behind the moves: each is moved, the lowest last, and each for
-- which the count leaves no room at its new place is among them.
pub record AreGoing (c : Count) (places from : List ℕ) : Type 0 where
  pub falling : IsStrictlyIncreasing (reverse from)
  pub there : (place : ℕ) → Contains from place → Contains places place
  pub moved : (place : ℕ) → Contains from place → is_left c place ≡ false
  pub full : (place : ℕ) → Contains places place → is_left c place ≡ false → is_left c (suc place) ≡ true → Contains from place
