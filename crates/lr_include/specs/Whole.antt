-- What the bytes of a file tell that breaks off.
use Rattle.std.specs.Prelude.{ℕ, zero, suc, List, [], ◌∷◌, ◌++◌, if◌then◌else◌}
use Rattle.lr_lex.specs.declared.said.Said.{Said}
use Rattle.lr_lex.specs.declared.said.Said.TheVariants as says
use Rattle.lr_lex.specs.Lines.{NumberedLine, lines}
use Rattle.lr_lex.specs.Pieces.{has_line}
use Rattle.lr_lex.specs.Items.{Told, said, told, taken, ended}

-- the bytes up to the last newline, and with it
abbrev pub whole_lines : List ℕ → List ℕ
whole_lines [] = []
whole_lines (b ∷ bs) = if has_line (b ∷ bs) then (b ∷ whole_lines bs) else []

-- what a line tells, with the lines behind it; nothing where it begins a script that none of them ends
abbrev pub told_whole : ℕ → Said → List NumberedLine → List Told
told_whole number (says.Script w brace stray) ls = if ended ls then told number (says.Script w brace stray) ls else []
told_whole number s ls = told number s ls

-- what the lines tell so, but for so many in front, which belong to a script
abbrev pub whole_of : ℕ → List NumberedLine → List Told
whole_of skipped [] = []
whole_of (suc skipped) (l ∷ ls) = whole_of skipped ls
whole_of zero (l ∷ ls) = told_whole l.number (said l) ls ++ whole_of (taken (said l) ls) ls

-- The items and faults of the whole lines of the bytes. A script among them that has no end tells nothing.
abbrev pub whole_items : List ℕ → List Told
whole_items bytes = whole_of 0 (lines 1 0 (whole_lines bytes))
