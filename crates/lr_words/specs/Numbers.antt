-- Numbers, sizes, days of the week and modes: what a word says, or the kind of its fault.
use Rattle.std.specs.Prelude.{ℕ, ◌-◌, ◌*◌, ◌==◌, Bool, false, not, ◌&&◌, ◌||◌, List, [], ◌∷◌, Option, Some, None, Result, Ok, Err}
use Rattle.std.specs.Prelude.{length, take, slice_index, nat_le, nat_lt, bytes_eq, codes, if◌then◌else◌}
use Rattle.std.specs.List.{list_all}
use Rattle.std.specs.Str.Parse.{digits_value}
use Rattle.lr_rules.specs.declared.fault.ConfKind.{ConfKind}
use Rattle.lr_rules.specs.declared.fault.ConfKind.TheVariants as kind
use Rattle.lr_rules.specs.declared.rule.Count.{Count}
use Rattle.lr_rules.specs.declared.rule.Count.TheVariants as count
use Rattle.lr_rules.specs.Bytes.{is_digit}
use Rattle.lr_rules.specs.Limits.{is_small, is_size}
use Rattle.lr_rules.specs.Path.{is_empty}

-- ---- numbers

-- one digit or more
unfoldable pub is_number : List ℕ → Bool
is_number word = not (is_empty word) && list_all is_digit word

-- the number that digits write
abbrev pub number_of : List ℕ → ℕ
number_of word = digits_value 10 word

-- a plain decimal number, of at most 999,999
unfoldable pub number_value : List ℕ → Result ℕ ConfKind
number_value word =
    if not (is_number word) then Err kind.BadNumber
    else if not (is_small (number_of word)) then Err kind.TooLarge
    else Ok (number_of word)

-- the day of a `weekly`: one of 0 to 7
unfoldable pub weekday_value : List ℕ → Result ℕ ConfKind
weekday_value word = if is_number word && nat_le (number_of word) 7 then Ok (number_of word) else Err kind.BadNumber

-- ---- counts

abbrev pub is_minus_one : List ℕ → Bool
is_minus_one word = bytes_eq word (codes "-1")

abbrev pub keep_value : Result ℕ ConfKind → Result Count ConfKind
keep_value (Ok n) = Ok (count.Keep n)
keep_value (Err k) = Err k

-- how many members are kept; by -1 all are
unfoldable pub count_value : List ℕ → Result Count ConfKind
count_value word = if is_minus_one word then Ok count.Always else keep_value (number_value word)

-- ---- sizes

-- the last byte of a word; 0 where it has none
abbrev pub last_byte : List ℕ → ℕ
last_byte word = slice_index word (length word - 1)

-- `k`, `M` or `G`
abbrev pub is_unit : ℕ → Bool
is_unit b = b == 107 || (b == 77 || b == 71)

-- how many bytes the letter stands for
abbrev pub unit_of : ℕ → ℕ
unit_of b = if b == 107 then 1024 else if b == 77 then 1048576 else if b == 71 then 1073741824 else 1

-- a size without its letter
abbrev pub size_digits : List ℕ → List ℕ
size_digits word = if is_unit (last_byte word) then take (length word - 1) word else word

-- how many bytes the digits of a size and its letter say
abbrev pub size_bytes : List ℕ → ℕ
size_bytes word = number_of (size_digits word) * unit_of (last_byte word)

-- digits and at most one letter: bytes, of at most 2^63 - 1
unfoldable pub size_value : List ℕ → Result ℕ ConfKind
size_value word =
    if not (is_number (size_digits word)) then Err kind.BadSize
    else if not (is_size (size_bytes word)) then Err kind.TooLarge
    else Ok (size_bytes word)

-- ---- modes

abbrev pub is_octal : ℕ → Bool
is_octal b = nat_le 48 b && nat_le b 55

-- three or four octal digits
abbrev pub is_mode_text : List ℕ → Bool
is_mode_text word = (length word == 3 || length word == 4) && list_all is_octal word

-- permission bits
unfoldable pub mode_value : List ℕ → Result ℕ ConfKind
mode_value word = if is_mode_text word then Ok (digits_value 8 word) else Err kind.BadMode

abbrev pub begins_with_digit : List ℕ → Bool
begins_with_digit [] = false
begins_with_digit (b ∷ bs) = is_digit b

abbrev pub some_mode : Result ℕ ConfKind → Result (Option ℕ) ConfKind
some_mode (Ok n) = Ok (Some n)
some_mode (Err k) = Err k

-- the mode that the first word of a `create` says; one that begins with no digit is an owner
unfoldable pub first_mode_value : List ℕ → Result (Option ℕ) ConfKind
first_mode_value word = if begins_with_digit word then some_mode (mode_value word) else Ok None

-- of so many words one isn't the mode
abbrev pub names_owner : ℕ → Option ℕ → Bool
names_owner words None = nat_lt 0 words
names_owner words (Some mode) = nat_lt 1 words
