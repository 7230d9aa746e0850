-- What a state text says: the grammar of its lines, the table that they make, and their faults.
use Rattle.std.specs.Prelude.{Bool, true, false, not, ◌||◌, ◌==◌, ◌≡◌, ◌≢◌, ◌⊎◌, ℕ, pos, ◌+◌, ◌-◌, ◌*◌, ◌<◌, ◌≤◌, nat_lt}
use Rattle.std.specs.Prelude.{List, [], ◌∷◌, ◌++◌, length, map, take, Result, Ok, Err, Option, Some, None, IsSome, codes}
use Rattle.std.specs.Prelude.{if◌then◌else◌}
use Rattle.std.specs.List.{list_all, flat_map, slice_split}
use Rattle.std.specs.Str.{bytes_eq}
use Rattle.lr_rules.specs.declared.civil.Civil.{Civil}
use Rattle.lr_rules.specs.declared.fault.StateKind.{StateKind}
use Rattle.lr_rules.specs.declared.fault.StateKind.TheVariants.{TooBig, BadTop, BadName, BadDate, Twice}
use Rattle.lr_rules.specs.Bytes.{is_blank, is_newline, is_digit, is_no_blank}
use Rattle.lr_state.specs.Table.{StateEntry, moment_of, is_name}

-- the end, or a blank
abbrev pub ends_word : List ℕ → Bool
ends_word [] = true
ends_word (b ∷ bs) = is_blank b

-- the lines behind a newline, where there is one
abbrev pub lines_behind : Option (List ℕ) → List (List ℕ)
lines_behind None = []
lines_behind (Some text) = slice_split is_newline text

-- a sign of a quoted name: a byte, with a backslash in front or without
abbrev pub StateSign : Type 0
StateSign = Bool × ℕ

abbrev pub spelling : StateSign → List ℕ
spelling s = if s.0 then 92 ∷ s.1 ∷ [] else s.1 ∷ []

-- a quote and a backslash have a backslash in front
abbrev pub is_escaped : StateSign → Bool
is_escaped s = s.0 || not ((s.1 == 34) || (s.1 == 92))

abbrev pub byte_of : StateSign → ℕ
byte_of s = s.1

-- the line begins with the name between quotes, and the rest is behind them
pub record IsQuoted (line name rest : List ℕ) : Type 0 where
  pub signs : List StateSign
  pub each : list_all is_escaped signs ≡ true
  pub line_is : line ≡ 34 ∷ (flat_map spelling signs ++ 34 ∷ rest)
  pub name_is : name ≡ map byte_of signs

-- the line begins with the name as it is: it begins with a slash and holds no blank
pub record IsBare (line name rest : List ℕ) : Type 0 where
  pub slash : take 1 name ≡ 47 ∷ []
  pub no_blank : list_all is_no_blank name ≡ true
  pub line_is : line ≡ name ++ rest
  pub ends : ends_word rest ≡ true

-- the line begins with a name of a log, and the rest is behind it
abbrev pub BeginsWithName : List ℕ → List ℕ → List ℕ → Type 0
BeginsWithName line name rest = (IsQuoted line name rest ⊎ IsBare line name rest) × (is_name name ≡ true)

-- the value of digits behind a number
abbrev pub value_from : ℕ → List ℕ → ℕ
value_from n [] = n
value_from n (d ∷ ds) = value_from (n * 10 + (d - 48)) ds

-- a number of at most so many digits, with zeros in front or without
pub record IsNumber (most : ℕ) (digits : List ℕ) (n : ℕ) : Type 0 where
  pub some : 0 < length digits
  pub few : length digits ≤ most
  pub each : list_all is_digit digits ≡ true
  pub value : n ≡ value_from 0 digits

-- a time of the day
pub record IsClockTime (text : List ℕ) (hour minute second : ℕ) : Type 0 where
  pub h : List ℕ
  pub m : List ℕ
  pub s : List ℕ
  pub text_is : text ≡ 45 ∷ (h ++ 58 ∷ (m ++ 58 ∷ s))
  pub hour_is : IsNumber 2 h hour
  pub minute_is : IsNumber 2 m minute
  pub second_is : IsNumber 2 s second

-- without a time it is 0:0:0
abbrev pub IsTime : List ℕ → ℕ → ℕ → ℕ → Type 0
IsTime text hour minute second =
    ((text ≡ []) × (hour ≡ 0) × (minute ≡ 0) × (second ≡ 0)) ⊎ IsClockTime text hour minute second

-- behind a name stand blanks, a date with a time or without, and maybe blanks
pub record HasDate (rest : List ℕ) (at : Civil) : Type 0 where
  pub gap : List ℕ
  pub y : List ℕ
  pub m : List ℕ
  pub d : List ℕ
  pub time : List ℕ
  pub behind : List ℕ
  pub rest_is : rest ≡ gap ++ (y ++ 45 ∷ (m ++ 45 ∷ (d ++ (time ++ behind))))
  pub gap_some : 0 < length gap
  pub gap_blank : list_all is_blank gap ≡ true
  pub behind_blank : list_all is_blank behind ≡ true
  pub year : ℕ
  pub year_is : IsNumber 4 y year
  pub at_year : at.year ≡ pos year
  pub month_is : IsNumber 2 m at.month
  pub day_is : IsNumber 2 d at.day
  pub time_is : IsTime time at.hour at.minute at.second

-- behind the entries of the lines before it, a line leaves them, where it is empty, or adds its own
abbrev pub AddsLine : List StateEntry → List ℕ → List StateEntry → Type 0
AddsLine before line after =
    ((line ≡ []) × (after ≡ before))
    ⊎ ((name : List ℕ) × (rest : List ℕ) × (at : Civil) × BeginsWithName line name rest × HasDate rest at
    × (moment_of before name ≡ None) × (after ≡ before ++ (name, at) ∷ []))

-- the first fault of a line, behind the entries of the lines before it
abbrev pub IsFirstFault : List StateEntry → List ℕ → StateKind → Type 0
IsFirstFault before line TooBig = ⊥
IsFirstFault before line BadTop = ⊥
IsFirstFault before line BadName = (line ≢ []) × ((name rest : List ℕ) → BeginsWithName line name rest → ⊥)
IsFirstFault before line BadDate =
    (name : List ℕ) × (rest : List ℕ) × BeginsWithName line name rest × ((at : Civil) → HasDate rest at → ⊥)
IsFirstFault before line Twice =
    (name : List ℕ) × (rest : List ℕ) × (at : Civil) × BeginsWithName line name rest × HasDate rest at
    × IsSome (moment_of before name)

-- what a text says: a table, or its first fault and the line of it
abbrev pub StateSaid : Type 0
StateSaid = Result (List StateEntry) (ℕ × StateKind)

-- what the lines from this number on say, behind the entries of the lines before them
abbrev pub LinesSay : ℕ → List StateEntry → List (List ℕ) → StateSaid → Type 0
LinesSay number before [] said = said ≡ Ok before
LinesSay number before (line ∷ lines) said =
    ((kind : StateKind) × IsFirstFault before line kind × (said ≡ Err (number, kind)))
    ⊎ ((after : List StateEntry) × AddsLine before line after × LinesSay (number + 1) after lines said)

abbrev pub top_2 : List ℕ
top_2 = codes "logrotate state -- version 2"

abbrev pub top_1 : List ℕ
top_1 = codes "logrotate state -- version 1"

abbrev pub is_top : List ℕ → Bool
is_top line = bytes_eq line top_2 || bytes_eq line top_1

-- what the lines behind the first say, where that names the version
abbrev pub BehindTop : Bool → List (List ℕ) → StateSaid → Type 0
BehindTop true lines said = LinesSay 2 [] lines said
BehindTop false lines said = said ≡ Err (1, BadTop)

abbrev pub TextLinesSay : List (List ℕ) → StateSaid → Type 0
TextLinesSay [] said = said ≡ Ok []
TextLinesSay (top ∷ lines) said = BehindTop (is_top top) lines said

-- what a text says that may be too big
abbrev pub SizedTextSays : Bool → List ℕ → StateSaid → Type 0
SizedTextSays true text said = said ≡ Err (0, TooBig)
SizedTextSays false text said = TextLinesSay (slice_split is_newline text) said

-- what a state text says: an empty one has no entries
abbrev pub TextSays : List ℕ → StateSaid → Type 0
TextSays [] said = said ≡ Ok []
TextSays (b ∷ bs) said = SizedTextSays (nat_lt 67_108_864 (length (b ∷ bs))) (b ∷ bs) said
