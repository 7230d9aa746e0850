-- The text that is written for a table.
use Rattle.std.specs.Prelude.{◌||◌, ◌==◌, ℕ, ◌+◌, ◌/◌, ◌%◌, nat_lt, unsigned_abs, List, [], ◌∷◌, ◌++◌, if◌then◌else◌}
use Rattle.std.specs.List.{flat_map}
use Rattle.lr_rules.specs.declared.civil.Civil.{Civil}
use Rattle.lr_state.specs.Grammar.{top_2}
use Rattle.lr_state.specs.Table.{StateEntry}

-- a byte of a name, with a backslash in front of a quote and of a backslash
abbrev pub escaped : ℕ → List ℕ
escaped b = if (b == 34) || (b == 92) then 92 ∷ b ∷ [] else b ∷ []

-- a number below 10,000 in decimal, without zeros in front
unfoldable pub decimal : ℕ → List ℕ
decimal n =
    if nat_lt n 10 then (48 + n) ∷ []
    else if nat_lt n 100 then (48 + n / 10) ∷ (48 + n % 10) ∷ []
    else if nat_lt n 1000 then (48 + n / 100) ∷ (48 + n / 10 % 10) ∷ (48 + n % 10) ∷ []
    else (48 + n / 1000) ∷ (48 + n / 100 % 10) ∷ (48 + n / 10 % 10) ∷ (48 + n % 10) ∷ []

-- a moment, as 2024-1-13-0:0:0
unfoldable pub moment_text : Civil → List ℕ
moment_text at =
    decimal (unsigned_abs at.year) ++ 45 ∷ (decimal at.month ++ 45 ∷ (decimal at.day
    ++ 45 ∷ (decimal at.hour ++ 58 ∷ (decimal at.minute ++ 58 ∷ decimal at.second))))

-- the line of an entry without its newline
unfoldable pub line_text : StateEntry → List ℕ
line_text e = 34 ∷ (flat_map escaped e.0 ++ 34 ∷ (32 ∷ moment_text e.1))

-- the line of an entry
abbrev pub entry_line : StateEntry → List ℕ
entry_line e = line_text e ++ 10 ∷ []

-- the text of a table
abbrev pub table_text : List StateEntry → List ℕ
table_text t = (top_2 ++ 10 ∷ []) ++ flat_map entry_line t
