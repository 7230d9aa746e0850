-- Pieces written to a buffer.
use Rattle.std.specs.Prelude.{◌≡◌, ℕ, ◌+◌, List, ◌++◌, length, take}

-- the piece stands in the new buffer from the place on, behind what stood before it; the end is behind it
abbrev pub WritesPiece : List ℕ → ℕ → List ℕ → ℕ → List ℕ → Type 0
WritesPiece old at new end piece = (end ≡ at + length piece) × (take end new ≡ take at old ++ piece)
