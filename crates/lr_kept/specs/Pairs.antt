-- The pairs of logs that meet.
use Rattle.std.specs.Prelude.{◌≡◌, ◌≢◌, ◌⊎◌, ◌<◌, ◌≤◌, ℕ, true, nat_lt, List, Some, length, slice_get, slice_set, All, Contains}
use Rattle.std.specs.Prelude.{if◌then◌else◌}
use Rattle.std.specs.Borrow.{Bor}
use Rattle.std.specs.List.Sorted.{IsNonDecreasingBy}
use Rattle.lr_rules.specs.Names.{aside_path}
use Rattle.lr_shapes.specs.Fronts.{Begins}
use Rattle.lr_family.specs.declared.family.Family.{Family}
use Rattle.lr_kept.specs.declared.choice.Choice.{Choice}
use Rattle.lr_kept.specs.declared.choice.Choice.TheVariants.{Again, MemberOf, Reserved, Meets}
use Rattle.lr_kept.specs.declared.front.Front.{Front}
use Rattle.lr_kept.specs.declared.pair.Pair.{Pair}
use Rattle.lr_kept.specs.Chosen.{MeetAt, IsKeptAt}
use Rattle.lr_kept.specs.Fronts.{FindsFront, front_at}

abbrev pub pair_at : ℕ → ℕ → Pair
pair_at earlier later = record { earlier = earlier; later = later }

-- the pair of two places, whichever comes first
abbrev pub pair_of : ℕ → ℕ → Pair
pair_of i k = if nat_lt i k then pair_at i k else pair_at k i

-- their logs meet
abbrev pub IsPair : List (Bor Family) → Pair → Type 0
IsPair logs p = (p.earlier < p.later) × MeetAt logs p.earlier p.later

-- Pairs of logs that meet come to the list, and none goes.
pub record Grows (logs : List (Bor Family)) (old new : List Pair) : Type 0 where
  pub kept : (p : Pair) → Contains old p → Contains new p
  pub sound : All (IsPair logs) old → All (IsPair logs) new

-- the pair of these places is among them, where their logs meet
abbrev pub HasPair : List (Bor Family) → List Pair → ℕ → ℕ → Type 0
HasPair logs pairs i k = i ≢ k → MeetAt logs i k → Contains pairs (pair_of i k)

-- The pair of these places comes to the list, where their logs meet.
pub record AddsPair (logs : List (Bor Family)) (i k : ℕ) (old new : List Pair) : Type 0 where
  pub grows : Grows logs old new
  pub found : HasPair logs new i k

-- Of this place the pairs come with all whose fronts begin so.
pub record AddsPairs (logs : List (Bor Family)) (fronts : List Front) (place : ℕ) (begin : List ℕ)
    (old new : List Pair) : Type 0 where
  pub grows : Grows logs old new
  pub found : (bytes : List ℕ) (k : ℕ) → Contains fronts (front_at k bytes) → Begins begin bytes → HasPair logs new place k

-- Of this place the pairs come with all that stand between these two.
pub record AddsBetween (logs : List (Bor Family)) (fronts : List Front) (place from to : ℕ) (old new : List Pair) : Type 0 where
  pub grows : Grows logs old new
  pub found : (t : ℕ) (f : Front) → slice_get fronts t ≡ Some f → from ≤ t → t < to → HasPair logs new place f.place

-- Of this place the pairs come with all whose fronts begin with the path where its log waits, where that is set aside.
pub record AddsAside (logs : List (Bor Family)) (fronts : List Front) (place : ℕ) (old new : List Pair) : Type 0 where
  pub grows : Grows logs old new
  pub found : (f : Bor Family) (bytes : List ℕ) (k : ℕ) → slice_get logs place ≡ Some f → f.now.naming.aside ≡ true
      → Contains fronts (front_at k bytes) → Begins (aside_path f.now.log) bytes → HasPair logs new place k

-- Of this place, unless it is left out, the pairs come with all that its log finds.
pub record AddsPairsOf (logs : List (Bor Family)) (choices : List Choice) (fronts : List Front) (place : ℕ)
    (old new : List Pair) : Type 0 where
  pub grows : Grows logs old new
  pub found : (f : Bor Family) (bytes : List ℕ) (k : ℕ) → slice_get logs place ≡ Some f → IsKeptAt choices place
      → Contains fronts (front_at k bytes) → FindsFront f.now bytes → HasPair logs new place k

-- These are pairs of logs that meet, and of the first n places they have what the logs find.
pub record HaveFound (logs : List (Bor Family)) (choices : List Choice) (fronts : List Front) (n : ℕ)
    (pairs : List Pair) : Type 0 where
  pub sound : All (IsPair logs) pairs
  pub found : (i : ℕ) (f : Bor Family) (bytes : List ℕ) (k : ℕ) → i < n → slice_get logs i ≡ Some f → IsKeptAt choices i
      → Contains fronts (front_at k bytes) → FindsFront f.now bytes → HasPair logs pairs i k

-- These are the pairs of logs that meet, of all that aren't left out.
pub record HavePairs (logs : List (Bor Family)) (choices : List Choice) (pairs : List Pair) : Type 0 where
  pub sound : All (IsPair logs) pairs
  pub each : (i k : ℕ) → i < k → IsKeptAt choices i → IsKeptAt choices k → MeetAt logs i k → Contains pairs (pair_at i k)

-- they stand in order of their earlier places
abbrev pub PairsRise : List Pair → Type 0
PairsRise pairs = IsNonDecreasingBy (λ p. p.earlier) pairs

-- of a pair whose logs are both kept the later one isn't any more
abbrev pub IsPairSettled : List Choice → Pair → List Choice → Type 0
IsPairSettled old p new = (IsKeptAt old p.later × IsKeptAt old p.earlier × (new ≡ slice_set old p.later (Meets p.earlier)))
    ⊎ ((IsKeptAt old p.later → IsKeptAt old p.earlier → ⊥) × (new ≡ old))

-- this pair is among the first n
abbrev pub IsPairAmong : List Pair → ℕ → ℕ → ℕ → Type 0
IsPairAmong pairs n i k = (s : ℕ) × (s < n) × (slice_get pairs s ≡ Some (pair_at i k))

-- So the choices stand once the first n pairs are settled.
pub record AreSettled (begun : List Choice) (pairs : List Pair) (n : ℕ) (choices : List Choice) : Type 0 where
  pub as_many : length choices ≡ length begun
  pub kept : (k : ℕ) → IsKeptAt choices k → IsKeptAt begun k
  pub again : (k i : ℕ) → slice_get choices k ≡ Some (Again i) → slice_get begun k ≡ Some (Again i)
  pub joined : (k i : ℕ) → slice_get choices k ≡ Some (MemberOf i) → slice_get begun k ≡ Some (MemberOf i)
  pub barred : (k i : ℕ) → slice_get choices k ≡ Some (Reserved i) → slice_get begun k ≡ Some (Reserved i)
  pub met_new : (k i : ℕ) → slice_get choices k ≡ Some (Meets i) → IsKeptAt begun k
  pub met_kept : (k i : ℕ) → slice_get choices k ≡ Some (Meets i) → IsKeptAt choices i
  pub met_pair : (k i : ℕ) → slice_get choices k ≡ Some (Meets i) → IsPairAmong pairs n i k
  pub met_first : (k i j : ℕ) → slice_get choices k ≡ Some (Meets i) → j < i → IsPairAmong pairs n j k → IsKeptAt choices j → ⊥
  pub apart : (k j : ℕ) → IsPairAmong pairs n j k → IsKeptAt choices k → IsKeptAt choices j → ⊥
