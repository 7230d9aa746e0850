-- Which logs have a reserved name, before it is asked which logs meet.
use Rattle.std.specs.Prelude.{◌≡◌, ◌≢◌, ◌≤◌, ◌<◌, ℕ, List, Some, length, slice_get}
use Rattle.std.specs.Borrow.{Bor}
use Rattle.lr_rules.specs.declared.path.Path.{Path}
use Rattle.lr_rules.specs.Names.{IsName}
use Rattle.lr_family.specs.declared.family.Family.{Family}
use Rattle.lr_kept.specs.declared.choice.Choice.{Choice}
use Rattle.lr_kept.specs.declared.choice.Choice.TheVariants.{Kept, Reserved}
use Rattle.lr_kept.specs.Chosen.{HasReserved, IsFree, IsKeptAt}

-- The log was kept so far, and none of the names is reserved.
pub record IsUnbarred (logs : List (Bor Family)) (reserved : List Path) (old : List Choice) (k : ℕ) : Type 0 where
  pub kept : IsKeptAt old k
  pub free : IsFree logs reserved k

-- The log was kept so far, and of the reserved paths this is the first that is one of its names.
pub record IsShut (logs : List (Bor Family)) (reserved : List Path) (old : List Choice) (k i : ℕ) : Type 0 where
  pub kept : IsKeptAt old k
  pub has : HasReserved logs reserved k i
  pub first : (j : ℕ) → j < i → HasReserved logs reserved k j → ⊥

-- of the logs that were kept so far those are left of which no name is reserved; any other choice is as it was
abbrev pub IsUnbarredChoice : List (Bor Family) → List Path → List Choice → ℕ → Choice → Type 0
IsUnbarredChoice logs reserved old k Kept = IsUnbarred logs reserved old k
IsUnbarredChoice logs reserved old k (Reserved i) = IsShut logs reserved old k i
IsUnbarredChoice logs reserved old k c = slice_get old k ≡ Some c

-- So it is for each log.
pub record AreOpened (logs : List (Bor Family)) (reserved : List Path) (old choices : List Choice) : Type 0 where
  pub as_many : length choices ≡ length old
  pub each : (k : ℕ) (c : Choice) → slice_get choices k ≡ Some c → IsUnbarredChoice logs reserved old k c

-- It is for the first n logs, and the others are as they were.
pub record HaveOpened (logs : List (Bor Family)) (reserved : List Path) (old : List Choice) (n : ℕ)
    (choices : List Choice) : Type 0 where
  pub as_many : length choices ≡ length old
  pub below : (k : ℕ) (c : Choice) → k < n → slice_get choices k ≡ Some c → IsUnbarredChoice logs reserved old k c
  pub from : (k : ℕ) (c : Choice) → n ≤ k → slice_get choices k ≡ Some c → slice_get old k ≡ Some c

-- none is reserved so far
abbrev pub NoneShut : List Choice → Type 0
NoneShut old = (k i : ℕ) → slice_get old k ≡ Some (Reserved i) → ⊥

-- The path at this place is one of the names of the log, and none before it is.
pub record IsFirstName (log : Family) (reserved : List Path) (i : ℕ) : Type 0 where
  pub path : Path
  pub at_path : slice_get reserved i ≡ Some path
  pub named : IsName log.log log.naming path
  pub first : (j : ℕ) (q : Path) → j < i → slice_get reserved j ≡ Some q → IsName log.log log.naming q → ⊥

-- none of them is
abbrev pub HasNoName : Family → List Path → Type 0
HasNoName log reserved = (j : ℕ) (q : Path) → slice_get reserved j ≡ Some q → IsName log.log log.naming q → ⊥

-- A log that is kept so far stays so where none of its names is reserved, and else is barred by the first; any other choice stays.
pub data Opens (log : Family) (reserved : List Path) : Choice → Choice → Type 0 where
  free : HasNoName log reserved → Opens log reserved Kept Kept
  barred : (i : ℕ) → IsFirstName log reserved i → Opens log reserved Kept (Reserved i)
  stays : (c : Choice) → c ≢ Kept → Opens log reserved c c
