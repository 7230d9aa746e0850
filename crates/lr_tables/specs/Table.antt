-- Tables whose words rise.
use Rattle.std.specs.Prelude.{◌≡◌, ℕ, Bool, true, ◌&&◌, List, [], ◌∷◌, map, Some, slice_get}
use Rattle.std.specs.Cmp.Lexicographic.{slice_cmp}
use Rattle.std.specs.Ordering.{nat_cmp, is_lt}
use Rattle.lr_tables.specs.declared.keyed.Row.{Row}

-- each word stands before the next, by its bytes; so no two are the same
abbrev pub rising : List (List ℕ) → Bool
rising [] = true
rising (a ∷ []) = true
rising (a ∷ b ∷ ws) = is_lt (slice_cmp nat_cmp a b) && rising (b ∷ ws)

abbrev pub words : List Row → List (List ℕ)
words rows = map (λ row. row.word.now) rows

-- the row with this number has the word
abbrev pub IsRowOf : List Row → List ℕ → ℕ → Type 0
IsRowOf rows word i = slice_get (words rows) i ≡ Some word
