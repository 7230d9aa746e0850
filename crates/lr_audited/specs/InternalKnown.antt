-- For proofs: the map from a path to its line.
use Rattle.std.specs.Prelude.{◌≡◌, ℕ, List, Option, Some, None, slice_get, Contains}
use Rattle.lr_kept.specs.Begun.{place_in}
use Rattle.lr_audited.specs.declared.known.Known.{Known}
use Rattle.lr_audited.specs.declared.line.Line.{Line}

-- the places that the map has are those of lines
pub record ArePlaces (lines : List Line) (places : List ℕ → Option ℕ) : Type 0 where
  pub there : (path : List ℕ) (i : ℕ) → places path ≡ Some i → (line : Line) × (slice_get lines i ≡ Some line) × (line.path ≡ path)
  pub none : (path : List ℕ) → places path ≡ None → (line : Line) → Contains lines line → line.path ≡ path → ⊥

abbrev pub IsIndexed : Known → Type 0
IsIndexed known = ArePlaces known.lines.items (place_in known.places.entries)
