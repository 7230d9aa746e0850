-- Which paths were found before, before it is asked which logs meet.
use Rattle.std.specs.Prelude.{◌≡◌, ◌<◌, ℕ, Bool, List, [], ◌∷◌, ◌++◌, Option, Some, None, length, slice_get, Vec, if◌then◌else◌}
use Rattle.std.specs.declared.alloc.Global.{Global}
use Rattle.std.specs.Borrow.{Bor}
use Rattle.std.specs.Map.{lookup}
use Rattle.std.specs.Str.{bytes_eq}
use Rattle.lr_family.specs.declared.family.Family.{Family}
use Rattle.lr_kept.specs.declared.choice.Choice.{Choice}
use Rattle.lr_kept.specs.declared.choice.Choice.TheVariants.{Kept, Again, MemberOf, Reserved, Meets}
use Rattle.lr_kept.specs.Chosen.{IsNew, IsAgain}

-- a log is kept so far where its path wasn't found before
abbrev pub IsBegun : List (Bor Family) → ℕ → Choice → Type 0
IsBegun logs k Kept = IsNew logs k
IsBegun logs k (Again i) = IsAgain logs k i
IsBegun logs k (MemberOf i) = ⊥
IsBegun logs k (Reserved i) = ⊥
IsBegun logs k (Meets i) = ⊥

-- So it is for each log.
pub record AreBegun (logs : List (Bor Family)) (choices : List Choice) : Type 0 where
  pub as_many : length choices ≡ length logs
  pub each : (k : ℕ) (c : Choice) → slice_get choices k ≡ Some c → IsBegun logs k c

-- ---- the map of the paths that were found

-- a path, and the place of the first log with it
abbrev pub Found : Type 0
Found = Vec ℕ Global × ℕ

abbrev pub has_bytes : List ℕ → Vec ℕ Global → Bool
has_bytes path key = bytes_eq path key.items

-- the place of the first log with this path
abbrev pub place_in : List Found → List ℕ → Option ℕ
place_in found path = lookup (has_bytes path) found

-- the path at this place is noted: it was found before, or is from now on
abbrev pub IsNoted : (List ℕ → Option ℕ) → (List ℕ → Option ℕ) → List ℕ → ℕ → Choice → Type 0
IsNoted old new path place Kept = (old path ≡ None) × ((q : List ℕ) → new q ≡ (if bytes_eq q path then Some place else old q))
IsNoted old new path place (Again i) = (old path ≡ Some i) × ((q : List ℕ) → new q ≡ old q)
IsNoted old new path place (MemberOf i) = ⊥
IsNoted old new path place (Reserved i) = ⊥
IsNoted old new path place (Meets i) = ⊥

-- what comes of the log at this place is put behind the others, and its path is noted
abbrev pub AddsChoice : (List ℕ → Option ℕ) → (List ℕ → Option ℕ) → List ℕ → ℕ → List Choice → List Choice → Type 0
AddsChoice places now path place old new = (c : Choice) × (new ≡ old ++ c ∷ []) × IsNoted places now path place c

-- the log at this place has this path
abbrev pub HasPathAt : List (Bor Family) → ℕ → List ℕ → Type 0
HasPathAt logs k path = (f : Bor Family) × (slice_get logs k ≡ Some f) × (f.now.log ≡ path)

-- Of each path this is the first place among the first n logs.
pub record ArePlaces (logs : List (Bor Family)) (n : ℕ) (places : List ℕ → Option ℕ) : Type 0 where
  pub below : (path : List ℕ) (i : ℕ) → places path ≡ Some i → i < n
  pub there : (path : List ℕ) (i : ℕ) → places path ≡ Some i → HasPathAt logs i path
  pub first : (path : List ℕ) (i j : ℕ) → places path ≡ Some i → j < i → HasPathAt logs j path → ⊥
  pub none : (path : List ℕ) (j : ℕ) → places path ≡ None → j < n → HasPathAt logs j path → ⊥
