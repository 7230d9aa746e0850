-- The lines of a text.
use Rattle.std.specs.Prelude.{ℕ, ◌==◌, ◌+◌, List, [], ◌∷◌, if◌then◌else◌}

-- a line: its number, where it begins, and its bytes without its newline
pub record NumberedLine : Type 0 where
  pub number : ℕ
  pub at : ℕ
  pub bytes : List ℕ

abbrev pub line_at : ℕ → ℕ → List ℕ → NumberedLine
line_at number at bytes = record { number = number; at = at; bytes = bytes }

-- a byte before the first line
abbrev pub longer : ℕ → ℕ → ℕ → List NumberedLine → List NumberedLine
longer number at b [] = line_at number at (b ∷ []) ∷ []
longer number at b (l ∷ ls) = line_at number at (b ∷ l.bytes) ∷ ls

-- The lines of a text whose first line has this number and begins at this place. A newline ends its line; behind the
-- last newline there is a line only where bytes stand.
abbrev pub lines : ℕ → ℕ → List ℕ → List NumberedLine
lines number at [] = []
lines number at (b ∷ bs) =
    if b == 10 then (line_at number at [] ∷ lines (number + 1) (at + 1) bs)
    else longer number at b (lines number (at + 1) bs)

-- the bytes of the first line, and those behind its newline
unfoldable pub line_of : List ℕ → List ℕ
line_of [] = []
line_of (b ∷ bs) = if b == 10 then [] else (b ∷ line_of bs)

unfoldable pub after_line : List ℕ → List ℕ
after_line [] = []
after_line (b ∷ bs) = if b == 10 then bs else after_line bs
