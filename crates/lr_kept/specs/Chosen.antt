-- Which of the logs that a run found it keeps, told over their list: it has them in order of definitions, then words, then bytes of
-- the path.
use Rattle.std.specs.Prelude.{◌≡◌, ◌≢◌, ◌<◌, ℕ, Bool, true, List, Some, All, length, slice_get}
use Rattle.std.specs.Borrow.{Bor}
use Rattle.lr_rules.specs.declared.path.Path.{Path}
use Rattle.lr_rules.specs.Limits.{is_format, or_none}
use Rattle.lr_rules.specs.Names.{Meet, IsName}
use Rattle.lr_family.specs.declared.family.Family.{Family}
use Rattle.lr_family.specs.Parts.{IsMember}
use Rattle.lr_kept.specs.declared.choice.Choice.{Choice}
use Rattle.lr_kept.specs.declared.choice.Choice.TheVariants.{Kept, Again, MemberOf, Reserved, Meets}

-- the relation holds between the logs at these two places
pub record BothLogs (R : Family → Family → Type 0) (logs : List (Bor Family)) (i k : ℕ) : Type 0 where
  pub one : Bor Family
  pub other : Bor Family
  pub at_one : slice_get logs i ≡ Some one
  pub at_other : slice_get logs k ≡ Some other
  pub holds : R one.now other.now

-- the logs at these two places have the same path
abbrev pub HaveOnePath : List (Bor Family) → ℕ → ℕ → Type 0
HaveOnePath logs i k = BothLogs (λ f g. f.log ≡ g.log) logs i k

-- the logs at these two places meet
abbrev pub MeetAt : List (Bor Family) → ℕ → ℕ → Type 0
MeetAt logs i k = BothLogs (λ f g. Meet f.log f.naming g.log g.naming) logs i k

-- the path of this log wasn't found before
abbrev pub IsNew : List (Bor Family) → ℕ → Type 0
IsNew logs k = (i : ℕ) → i < k → HaveOnePath logs i k → ⊥

-- The path of this log was found before, and here first.
pub record IsAgain (logs : List (Bor Family)) (k i : ℕ) : Type 0 where
  pub before : i < k
  pub same : HaveOnePath logs i k
  pub first : (j : ℕ) → j < i → HaveOnePath logs j k → ⊥

-- ---- members of another log's family

-- the log's format of dates, where it has one, meets its limits
abbrev pub HasFormat : Family → Type 0
HasFormat f = or_none is_format f.naming.dated ≡ true

-- so does that of each of these
abbrev pub HaveFormats : List (Bor Family) → Type 0
HaveFormats logs = All (λ f. HasFormat f.now) logs

-- the path at the second place is that of a member of the log at the first
abbrev pub IsMemberOf : List (Bor Family) → ℕ → ℕ → Type 0
IsMemberOf logs i k = BothLogs (λ f g. IsMember f.naming g.log) logs i k

-- a wildcard gave the path at this place
abbrev pub IsWild : List Bool → ℕ → Type 0
IsWild wild k = slice_get wild k ≡ Some true

-- A wildcard gave the first of these paths, and it is that of a member of the other log, whose path wasn't found before.
pub record IsMatchedMember (logs : List (Bor Family)) (wild : List Bool) (k i : ℕ) : Type 0 where
  pub matched : IsWild wild k
  pub other : i ≢ k
  pub new : IsNew logs i
  pub member : IsMemberOf logs i k

-- no wildcard gave the path, or it is no member's of another log
abbrev pub IsNoMatchedMember : List (Bor Family) → List Bool → ℕ → Type 0
IsNoMatchedMember logs wild k = (i : ℕ) → IsMatchedMember logs wild k i → ⊥

-- The path wasn't found before, but a wildcard gave it, and of the logs whose member it is this is the first.
pub record IsLogPassedOver (logs : List (Bor Family)) (wild : List Bool) (k i : ℕ) : Type 0 where
  pub new : IsNew logs k
  pub is : IsMatchedMember logs wild k i
  pub first : (j : ℕ) → j < i → IsMatchedMember logs wild k j → ⊥

-- ---- reserved paths

-- The reserved path at this place is one of the names of the log at that place.
pub record HasReserved (logs : List (Bor Family)) (reserved : List Path) (k i : ℕ) : Type 0 where
  pub log : Bor Family
  pub path : Path
  pub at_log : slice_get logs k ≡ Some log
  pub at_path : slice_get reserved i ≡ Some path
  pub named : IsName log.now.log log.now.naming path

-- none of its names is reserved
abbrev pub IsFree : List (Bor Family) → List Path → ℕ → Type 0
IsFree logs reserved k = (i : ℕ) → HasReserved logs reserved k i → ⊥

-- The path of this log wasn't found before and isn't passed over, and of the reserved paths this is the first that is one of its
-- names.
pub record IsBarred (logs : List (Bor Family)) (wild : List Bool) (reserved : List Path) (k i : ℕ) : Type 0 where
  pub new : IsNew logs k
  pub no_member : IsNoMatchedMember logs wild k
  pub has : HasReserved logs reserved k i
  pub first : (j : ℕ) → j < i → HasReserved logs reserved k j → ⊥

-- ---- what is kept

-- the log at this place is kept
abbrev pub IsKeptAt : List Choice → ℕ → Type 0
IsKeptAt choices k = slice_get choices k ≡ Some Kept

-- The path of this log wasn't found before and isn't passed over, none of its names is reserved, and of the logs before it that are
-- kept this is the first that it meets.
pub record IsMet (logs : List (Bor Family)) (wild : List Bool) (reserved : List Path) (choices : List Choice)
    (k i : ℕ) : Type 0 where
  pub new : IsNew logs k
  pub no_member : IsNoMatchedMember logs wild k
  pub free : IsFree logs reserved k
  pub before : i < k
  pub kept : IsKeptAt choices i
  pub meet : MeetAt logs i k
  pub first : (j : ℕ) → j < i → IsKeptAt choices j → MeetAt logs j k → ⊥

-- The path of this log wasn't found before and isn't passed over, none of its names is reserved, and it meets no log before it that
-- is kept.
pub record IsLogKept (logs : List (Bor Family)) (wild : List Bool) (reserved : List Path) (choices : List Choice)
    (k : ℕ) : Type 0 where
  pub new : IsNew logs k
  pub no_member : IsNoMatchedMember logs wild k
  pub free : IsFree logs reserved k
  pub apart : (j : ℕ) → j < k → IsKeptAt choices j → MeetAt logs j k → ⊥

-- what is chosen for the log at this place
abbrev pub IsChoice : List (Bor Family) → List Bool → List Path → List Choice → ℕ → Choice → Type 0
IsChoice logs wild reserved choices k Kept = IsLogKept logs wild reserved choices k
IsChoice logs wild reserved choices k (Again i) = IsAgain logs k i
IsChoice logs wild reserved choices k (MemberOf i) = IsLogPassedOver logs wild k i
IsChoice logs wild reserved choices k (Reserved i) = IsBarred logs wild reserved k i
IsChoice logs wild reserved choices k (Meets i) = IsMet logs wild reserved choices k i

-- These are the choices for the logs, one for each, where wildcards gave the paths that are marked so and these paths are reserved:
-- each is fixed by the logs and by the choices before it.
pub record AreChosen (logs : List (Bor Family)) (wild : List Bool) (reserved : List Path) (choices : List Choice) : Type 0 where
  pub as_many : length choices ≡ length logs
  pub each : (k : ℕ) (c : Choice) → slice_get choices k ≡ Some c → IsChoice logs wild reserved choices k c
