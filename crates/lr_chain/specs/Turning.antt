-- What a rotation makes of the names of a disk.
use Rattle.std.specs.Prelude.{◌≡◌, ◌≢◌, ◌+◌, ◌≤◌, ◌==◌, ◌||◌, ℕ, zero, suc, List, cond}
use Rattle.std.specs.List.{list_any}
use Rattle.lr_rules.specs.declared.path.Path.{Path}
use Rattle.lr_rules.specs.declared.rule.Count.{Count}
use Rattle.lr_rules.specs.declared.rule.Naming.{Naming}
use Rattle.lr_host.specs.declared.thing.Thing.{Thing}
use Rattle.lr_host.specs.declared.thing.Thing.TheVariants as thing
use Rattle.lr_host.specs.World.{Names}
use Rattle.lr_family.specs.Spots.{path_at}
use Rattle.lr_chain.specs.Rotation.{is_left}

-- What the member at a place names behind a rotation: what the log named at place 0, at each other place what the member
-- before it named, and nothing where the count leaves no room, or where that member comes from a place of which it goes.
abbrev pub turned : Count → List ℕ → Thing → (ℕ → Thing) → ℕ → Thing
turned c from log before zero = cond (is_left c 0) thing.Nothing log
turned c from log before (suc place) = cond (is_left c (suc place) || list_any (λ p. p == place) from) thing.Nothing (before place)

-- The family was turned: each member is where it belongs, the log's path names nothing, and each other path what it named.
pub record IsChainTurned (log : Path) (n : Naming) (c : Count) (from : List ℕ) (before after : Names) : Type 0 where
  pub members : (place : ℕ) → n.start + place ≤ 4294967295 → after (path_at n place)
      ≡ turned c from (before log) (λ p. before (path_at n p)) place
  pub log_gone : after log ≡ thing.Nothing
  pub others : (x : Path) → x ≢ log → ((place : ℕ) → n.start + place ≤ 4294967295 → x ≢ path_at n place) → after x ≡ before x
