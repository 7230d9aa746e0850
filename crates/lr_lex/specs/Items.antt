-- The items of a text: its lines first, and then what each line says.
use Rattle.std.specs.Prelude.{ℕ, suc, zero, ◌==◌, ◌&&◌, ◌||◌, not, Bool, false, List, [], ◌∷◌, ◌++◌, Option, Some, None, Result, Ok}
use Rattle.std.specs.Prelude.{Err, length, take, drop, find, position, slice_get, nat_lt, codes, if◌then◌else◌}
use Rattle.std.specs.List.{list_any, list_all, flat_map}
use Rattle.std.specs.Str.{is_utf8, bytes_eq}
use Rattle.lr_rules.specs.Bytes.{is_blank, is_no_blank}
use Rattle.lr_lex.specs.declared.word.Word.{Word}
use Rattle.lr_lex.specs.declared.item.Item.{Item}
use Rattle.lr_lex.specs.declared.item.Item.TheVariants as item
use Rattle.lr_lex.specs.declared.item.LexFault.{LexFault}
use Rattle.lr_lex.specs.declared.item.LexKind.{LexKind}
use Rattle.lr_lex.specs.declared.item.LexKind.TheVariants as kind
use Rattle.lr_lex.specs.declared.said.Said.{Said}
use Rattle.lr_lex.specs.declared.said.Said.TheVariants as says
use Rattle.lr_lex.specs.declared.sign.Sign.{Sign}
use Rattle.lr_lex.specs.Signs.{is_quote, line_signs}
use Rattle.lr_lex.specs.Words.{line_words, closes, opens, before_open, is_brace}
use Rattle.lr_lex.specs.Lines.{NumberedLine, lines}

-- ---- what a line says by itself

abbrev pub is_zero : ℕ → Bool
is_zero b = b == 0

-- UTF-8 without a zero byte
unfoldable pub is_text : List ℕ → Bool
is_text bytes = is_utf8 bytes && not (list_any is_zero bytes)

-- a line whose first sign past blanks is this one holds names
abbrev pub is_name_sign : ℕ → Bool
is_name_sign b = b == 47 || is_quote b

abbrev pub fault : ℕ → LexKind → Said
fault number kind = says.Fault (record { line = number; kind = kind })

-- the words behind which a script's text stands
abbrev pub begins_script : List ℕ → Bool
begins_script text =
    bytes_eq text (codes "prerotate")
    || bytes_eq text (codes "postrotate")
    || bytes_eq text (codes "firstaction")
    || bytes_eq text (codes "lastaction")
    || bytes_eq text (codes "preremove")

abbrev pub is_script_word : Option Word → Bool
is_script_word None = false
is_script_word (Some w) = begins_script w.text

abbrev pub first_begins_script : List Word → Bool
first_begins_script ws = is_script_word (slice_get ws 0)

abbrev pub line_of_words : ℕ → Bool → Bool → Bool → List Word → Said
line_of_words number names brace stray ws = says.Item (item.Line ws names brace stray number)

-- by the first word: more words behind a script's word are stray
abbrev pub by_first : ℕ → Bool → Bool → Bool → List Word → Option Word → Said
by_first number names brace stray ws None = line_of_words number names brace stray ws
by_first number names brace stray ws (Some w) =
    if begins_script w.text && not names then says.Script w brace (nat_lt 1 (length ws))
    else line_of_words number names brace stray ws

abbrev pub by_words : ℕ → Bool → Bool → Bool → List Word → Said
by_words number names brace stray ws = by_first number names brace stray ws (slice_get ws 0)

abbrev pub by_signs : ℕ → ℕ → Bool → Option (List Sign) → Said
by_signs number at names None = fault number kind.OpenQuote
by_signs number at names (Some ss) =
    if closes ss then says.Item (item.Close number)
    else by_words number names (opens ss) (list_any is_brace (before_open ss)) (line_words names at (before_open ss))

-- by the first sign past blanks
abbrev pub by_sign : NumberedLine → Option ℕ → Said
by_sign l None = says.Nothing
by_sign l (Some b) =
    if b == 35 then says.Nothing
    else by_signs l.number l.at (is_name_sign b) (line_signs (is_name_sign b) l.bytes)

unfoldable pub said : NumberedLine → Said
said l =
    if nat_lt 8192 (length l.bytes) then fault l.number kind.LineTooLong
    else if not (is_text l.bytes) then fault l.number kind.NotUtf8
    else by_sign l (find is_no_blank l.bytes)

-- ---- scripts

abbrev pub from_place : List ℕ → Option ℕ → List ℕ
from_place bytes None = []
from_place bytes (Some k) = drop k bytes

abbrev pub past_blanks : List ℕ → List ℕ
past_blanks bytes = from_place bytes (position is_no_blank bytes)

-- `endscript`, and blanks
abbrev pub is_end_word : List ℕ → Bool
is_end_word bytes = bytes_eq (take 9 bytes) (codes "endscript") && list_all is_blank (drop 9 bytes)

-- the line is `endscript` past blanks
unfoldable pub is_end : NumberedLine → Bool
is_end l = is_end_word (past_blanks l.bytes)

-- the lines before the first that ends a script, whether there is one, and the lines behind it
abbrev pub body : List NumberedLine → List NumberedLine
body [] = []
body (l ∷ ls) = if is_end l then [] else (l ∷ body ls)

abbrev pub ended : List NumberedLine → Bool
ended ls = list_any is_end ls

abbrev pub behind_script : List NumberedLine → List NumberedLine
behind_script [] = []
behind_script (l ∷ ls) = if is_end l then ls else behind_script ls

-- each line with its newline
abbrev pub script_text : List NumberedLine → List ℕ
script_text ls = flat_map (λ l. l.bytes ++ 10 ∷ []) ls

-- ---- items

-- an item or a fault
abbrev pub Told : Type 0
Told = Result Item LexFault

abbrev pub script : ℕ → Word → Bool → Bool → List ℕ → Bool → Told
script number w brace stray text ended =
    if not (is_text text) then Err (record { line = number; kind = kind.NotUtf8 })
    else if ended then Ok (item.Script w text brace stray number)
    else Err (record { line = number; kind = kind.NoEndscript })

-- what a line tells, with the lines behind it
abbrev pub told : ℕ → Said → List NumberedLine → List Told
told number says.Nothing ls = []
told number (says.Item i) ls = Ok i ∷ []
told number (says.Fault f) ls = Err f ∷ []
told number (says.Script w brace stray) ls = script number w brace stray (script_text (body ls)) (ended ls) ∷ []

-- how many of the lines behind it are its script, with the one that ends it
abbrev pub taken : Said → List NumberedLine → ℕ
taken (says.Script w brace stray) ls = suc (length (body ls))
taken other ls = 0

-- what the lines tell, but for so many in front, which belong to a script
abbrev pub items_of : ℕ → List NumberedLine → List Told
items_of skipped [] = []
items_of (suc skipped) (l ∷ ls) = items_of skipped ls
items_of zero (l ∷ ls) = told l.number (said l) ls ++ items_of (taken (said l) ls) ls

-- the items and faults of a text whose first line has this number and begins at this place
abbrev pub items_from : ℕ → ℕ → List ℕ → List Told
items_from number at text = items_of 0 (lines number at text)

-- the items and faults of a text
abbrev pub items : List ℕ → List Told
items text = items_from 1 0 text

-- what a call answers that gives it
abbrev pub answer : Told → Result (Option Item) LexFault
answer (Ok i) = Ok (Some i)
answer (Err f) = Err f

-- the words of items, as they stand in the text
abbrev pub words_told : Told → List Word
words_told (Ok (item.Line ws names brace stray number)) = ws
words_told (Ok (item.Close number)) = []
words_told (Ok (item.Script w text brace stray number)) = w ∷ []
words_told (Err f) = []

abbrev pub all_words : List Told → List Word
all_words ts = flat_map words_told ts
