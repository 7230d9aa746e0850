-- The entries of bytes that are appended in pieces.
use Rattle.std.specs.Prelude.{ℕ, List, [], ◌∷◌, ◌++◌}
use Rattle.lr_rules.specs.declared.path.Path.{Path}
use Rattle.lr_host.specs.declared.entry.Entry.{Entry}
use Rattle.lr_host.specs.declared.entry.Entry.TheVariants as entry

-- these bytes were appended, in pieces
pub data Appended (to : Path) : List ℕ → List Entry → Type 0 where
  no_more : Appended to [] []
  piece_more : (piece text : List ℕ) {ts : List Entry} → Appended to text ts
      → Appended to (piece ++ text) (entry.Appends to piece ∷ ts)

-- a first part of it was, up to an append that failed
pub data AppendBroke (to : Path) : List ℕ → List Entry → Type 0 where
  at_piece : (text : List ℕ) → AppendBroke to text []
  in_piece : (piece text : List ℕ) → AppendBroke to (piece ++ text) (entry.Appends to piece ∷ [])
  piece_on : (piece text : List ℕ) {ts : List Entry} → AppendBroke to text ts
      → AppendBroke to (piece ++ text) (entry.Appends to piece ∷ ts)
