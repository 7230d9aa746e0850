-- The words of a line: the runs of its signs between blanks.
use Rattle.std.specs.Prelude.{ℕ, ◌==◌, ◌+◌, ◌≤◌, ◌&&◌, ◌||◌, not, Bool, true, false, List, [], ◌∷◌, ◌++◌, Option, Some, None}
use Rattle.std.specs.Prelude.{length, take, drop, count_by, position, if◌then◌else◌}
use Rattle.std.specs.List.{list_any, list_all}
use Rattle.lr_lex.specs.declared.word.Word.{Word}
use Rattle.lr_lex.specs.declared.sign.Sign.{Sign}
use Rattle.lr_lex.specs.declared.sign.Sign.TheVariants.{Blank, Mark, Plain, Quoted}

abbrev pub is_gap : Sign → Bool
is_gap Blank = true
is_gap sign = false

abbrev pub is_ink : Sign → Bool
is_ink sign = not (is_gap sign)

-- the byte itself, outside quotes
abbrev pub is_plain_byte : ℕ → Sign → Bool
is_plain_byte byte (Plain b) = b == byte
is_plain_byte byte sign = false

abbrev pub is_open : Sign → Bool
is_open sign = is_plain_byte 123 sign

abbrev pub is_close_sign : Sign → Bool
is_close_sign sign = is_plain_byte 125 sign

abbrev pub is_brace : Sign → Bool
is_brace sign = is_open sign || is_close_sign sign

abbrev pub is_equals : Sign → Bool
is_equals sign = is_plain_byte 61 sign

-- ---- words

-- what the sign adds to its word
abbrev pub sign_text : Sign → List ℕ
sign_text Blank = []
sign_text Mark = []
sign_text (Plain b) = b ∷ []
sign_text (Quoted b) = b ∷ []

-- the signs begin inside a word
abbrev pub goes_on : List Sign → Bool
goes_on [] = false
goes_on (s ∷ ss) = is_ink s

abbrev pub one : ℕ → Sign → Word
one at s = record { text = sign_text s; at = at; len = 1 }

abbrev pub joined_words : Word → Word → Word
joined_words w v = record { text = w.text ++ v.text; at = w.at; len = w.len + v.len }

-- w and the first of the words are one
abbrev pub onto : Word → List Word → List Word
onto w [] = w ∷ []
onto w (v ∷ vs) = joined_words w v ∷ vs

-- the words of signs, of which the first stands at this place
abbrev pub words : ℕ → List Sign → List Word
words at [] = []
words at (s ∷ ss) =
    if is_gap s then words (at + 1) ss
    else if goes_on ss then onto (one at s) (words (at + 1) ss)
    else (one at s ∷ words (at + 1) ss)

-- the `=` at this place is a blank where exactly one word stands before it
abbrev pub parted : ℕ → List Sign → Option ℕ → List Sign
parted at ss None = ss
parted at ss (Some p) = if length (words at (take p ss)) == 1 then (take p ss ++ Blank ∷ drop (p + 1) ss) else ss

-- the words of a line that begins at this place: but for names, the first unquoted `=` may part them
abbrev pub line_words : Bool → ℕ → List Sign → List Word
line_words names at ss = if names then words at ss else words at (parted at ss (position is_equals ss))

-- ---- braces

-- the only sign past blanks is a closing brace
abbrev pub closes : List Sign → Bool
closes ss = list_any is_close_sign ss && count_by is_ink ss == 1

-- the last sign past blanks is an opening brace
abbrev pub opens : List Sign → Bool
opens [] = false
opens (s ∷ ss) = (is_open s && list_all is_gap ss) || opens ss

-- what stands before it, or all where there is none
abbrev pub before_open : List Sign → List Sign
before_open [] = []
before_open (s ∷ ss) = if is_open s && list_all is_gap ss then [] else (s ∷ before_open ss)

-- ---- places

-- the words stand one behind another from the one place to the other, and none is empty
abbrev pub Rises : ℕ → List Word → ℕ → Type 0
Rises from [] to = from ≤ to
Rises from (w ∷ ws) to = (from ≤ w.at) × (1 ≤ w.len) × Rises (w.at + w.len) ws to
