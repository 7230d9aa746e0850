-- The pieces by which the state text is read.
use Rattle.std.specs.Prelude.{◌≡◌, ◌<◌, ◌≤◌, ◌+◌, ◌⊎◌, ℕ, List, [], ◌∷◌, ◌++◌, length}
use Rattle.lr_rules.specs.declared.path.Path.{Path}
use Rattle.lr_host.specs.declared.entry.Entry.{Entry}
use Rattle.lr_host.specs.declared.entry.Entry.TheVariants as entry

-- What the reading of a text gave: pieces up to the last, or pieces up to a read that failed.
pub data Reading : Type 0 where
  Whole : List (List ℕ) → List ℕ → Reading
  Broken : List (List ℕ) → Reading

-- the bytes of these pieces
abbrev pub bytes_of : List (List ℕ) → List ℕ
bytes_of [] = []
bytes_of (piece ∷ pieces) = piece ++ bytes_of pieces

-- each of them has bytes, and no more than so many
abbrev pub AreSome : ℕ → List (List ℕ) → Type 0
AreSome size [] = Unit {0}
AreSome size (piece ∷ pieces) = (0 < length piece) × (length piece ≤ size) × AreSome size pieces

-- Behind these pieces the reading goes on: none was empty, and together they are within 67,108,864 bytes.
abbrev pub GoOn : ℕ → List (List ℕ) → Type 0
GoOn size pieces = AreSome size pieces × (length (bytes_of pieces) ≤ 67_108_864)

-- It ends with a piece behind so many bytes: the piece is empty, so this was the end of the file, or the limit is passed.
abbrev pub IsLast : ℕ → List ℕ → Type 0
IsLast place piece = (piece ≡ []) ⊎ (67_108_864 < place + length piece)

-- The pieces are those of one reading, each of so many bytes at most.
abbrev pub IsReading : ℕ → Reading → Type 0
IsReading size (Whole pieces last) = GoOn size pieces × (length last ≤ size) × IsLast (length (bytes_of pieces)) last
IsReading size (Broken pieces) = GoOn size pieces

-- the reads that gave these pieces, each from the end of the one before, the first from this place
abbrev pub reads_from : Path → ℕ → List (List ℕ) → List Entry
reads_from path place [] = []
reads_from path place (piece ∷ pieces) = entry.Reads path place piece ∷ reads_from path (place + length piece) pieces

-- those of a reading; a read that failed left none
abbrev pub reads_of : Path → Reading → List Entry
reads_of path (Whole pieces last) = reads_from path 0 (pieces ++ last ∷ [])
reads_of path (Broken pieces) = reads_from path 0 pieces
