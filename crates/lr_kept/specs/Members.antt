-- Which matches of wildcards are passed over as members of other logs, before it is asked which logs have a reserved name.
use Rattle.std.specs.Prelude.{◌≡◌, ◌⊎◌, ℕ, Bool, List, Some, length, min, slice_get, slice_set}
use Rattle.std.specs.Borrow.{Bor}
use Rattle.lr_family.specs.declared.family.Family.{Family}
use Rattle.lr_kept.specs.declared.choice.Choice.{Choice}
use Rattle.lr_kept.specs.declared.choice.Choice.TheVariants.{Kept, Again, MemberOf, Reserved, Meets}
use Rattle.lr_kept.specs.Chosen.{IsNew, IsAgain, IsMemberOf, IsWild, IsNoMatchedMember, IsLogPassedOver}

-- The path wasn't found before and isn't passed over.
pub record IsOwn (logs : List (Bor Family)) (wild : List Bool) (k : ℕ) : Type 0 where
  pub new : IsNew logs k
  pub no_member : IsNoMatchedMember logs wild k

-- a log is kept so far where its path wasn't found before and isn't passed over
abbrev pub IsPassed : List (Bor Family) → List Bool → ℕ → Choice → Type 0
IsPassed logs wild k Kept = IsOwn logs wild k
IsPassed logs wild k (Again i) = IsAgain logs k i
IsPassed logs wild k (MemberOf i) = IsLogPassedOver logs wild k i
IsPassed logs wild k (Reserved i) = ⊥
IsPassed logs wild k (Meets i) = ⊥

-- So it is for each log.
pub record ArePassed (logs : List (Bor Family)) (wild : List Bool) (choices : List Choice) : Type 0 where
  pub as_many : length choices ≡ length logs
  pub each : (k : ℕ) (c : Choice) → slice_get choices k ≡ Some c → IsPassed logs wild k c

-- ---- pair by pair

-- as far as the choices tell, the path wasn't found before
abbrev pub IsFirstFound : List Choice → ℕ → Type 0
IsFirstFound choices k = (i : ℕ) → slice_get choices k ≡ Some (Again i) → ⊥

-- a member of this log, and of one that is known already: the first of the two counts
abbrev pub lowered : Choice → ℕ → Choice
lowered (MemberOf j) i = MemberOf (min i j)
lowered _ i = MemberOf i

-- A wildcard gave the first of these paths, it is a member's of the log at the other place, and neither was found before.
pub record MayJoin (logs : List (Bor Family)) (wild : List Bool) (choices : List Choice) (k i : ℕ) : Type 0 where
  pub matched : IsWild wild k
  pub member : IsMemberOf logs i k
  pub path_first : IsFirstFound choices k
  pub log_first : IsFirstFound choices i

-- the path at the first place is passed over as a member of the log at the other, where it is one
abbrev pub Joins : List (Bor Family) → List Bool → ℕ → ℕ → List Choice → List Choice → Type 0
Joins logs wild k i old new = (MayJoin logs wild old k i × ((c : Choice) × (slice_get old k ≡ Some c)
    × (new ≡ slice_set old k (lowered c i)))) ⊎ ((MayJoin logs wild old k i → ⊥) × (new ≡ old))
