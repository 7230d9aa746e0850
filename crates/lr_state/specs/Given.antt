-- What was given to a reader of a state text, as contracts see it.
use Rattle.std.specs.Prelude.{Bool, true, false, ◌≡◌, ◌<◌, ℕ, List, length}

pub record Given : Type 0 where
  -- all bytes that were given, where they aren't too many to be kept
  pub bytes : List ℕ
  pub too_many : Bool
  -- there was no memory for them
  pub starved : Bool

-- the bytes are these, or they aren't kept and these are too many
abbrev pub AreHeld : Bool → List ℕ → List ℕ → Type 0
AreHeld false kept bytes = kept ≡ bytes
AreHeld true kept bytes = 67_108_864 < length bytes

-- these bytes were given, and there was memory for them
pub record HasTaken (given : Given) (bytes : List ℕ) : Type 0 where
  pub had_memory : given.starved ≡ false
  pub held : AreHeld given.too_many given.bytes bytes

-- there was no memory for bytes that were given
abbrev pub IsStarved : Given → Type 0
IsStarved given = given.starved ≡ true
