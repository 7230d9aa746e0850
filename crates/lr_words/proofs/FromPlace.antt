-- Words read from left to right.
use Rattle.std.proofs.Common.{◌≡◌, ℕ, ◌+◌, ◌<◌, List, ◌∷◌, length, drop, get_or, add-one, drop-cons}

-- what stands from a place on begins with the byte there
pub from_place : (s : List ℕ) (i : ℕ) → i < length s → drop i s ≡ get_or s i 0 ∷ drop (i + 1) s
from_place s i h = rw (add-one, drop-cons s i 0)
