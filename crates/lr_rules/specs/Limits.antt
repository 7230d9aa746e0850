-- The limits that the values of a rule meet.
use Rattle.std.specs.Prelude.{◌+◌, ◌≤◌, ℕ, Bool, true, false, not, ◌&&◌, ◌||◌, ◌==◌, List, [], ◌∷◌, length, Option, Some, None}
use Rattle.std.specs.Prelude.{nat_le, if◌then◌else◌}
use Rattle.std.specs.List.{list_any, list_all}
use Rattle.std.specs.Str.{is_utf8}
use Rattle.lr_rules.specs.declared.rule.Count.{Count}
use Rattle.lr_rules.specs.declared.rule.Count.TheVariants as count
use Rattle.lr_rules.specs.declared.rule.Criterion.{Criterion}
use Rattle.lr_rules.specs.declared.rule.Criterion.TheVariants as criterion
use Rattle.lr_rules.specs.declared.rule.Field.{Field}
use Rattle.lr_rules.specs.declared.rule.Field.TheVariants as field
use Rattle.lr_rules.specs.declared.rule.Format.{Format}
use Rattle.lr_rules.specs.declared.rule.Make.{Make}
use Rattle.lr_rules.specs.declared.rule.Make.TheVariants as make
use Rattle.lr_rules.specs.declared.rule.Piece.{Piece}
use Rattle.lr_rules.specs.declared.rule.Piece.TheVariants as piece
use Rattle.lr_rules.specs.declared.rule.Rule.{Rule}
use Rattle.lr_rules.specs.Match.{is_wildcard, literal_path, part_end}
use Rattle.lr_rules.specs.Names.{path_from, ends_with}
use Rattle.lr_rules.specs.Path.{last_of, is_bad_byte, is_slash, is_absolute, has_bad_byte, has_empty_part, has_dot_part}

-- ---- words

-- the bytes of a text are a path, its length left aside
abbrev pub is_path_text : List ℕ → Bool
is_path_text bytes = not (has_bad_byte bytes) && (is_absolute bytes && (not (has_empty_part bytes) && not (has_dot_part bytes)))

-- a path that can be a log's: of 2,048 bytes at most, with a last part of 1 to 255, and no copy that isn't whole
abbrev pub can_be_log : List ℕ → Bool
can_be_log path =
    nat_le (length path) 2048 && (nat_le 1 (length (last_of path)) &&
    (nat_le (length (last_of path)) 255 && not (ends_with part_end path)))

-- a word without wildcards: its path, without the backslashes that escape, is one that a log can have
abbrev pub is_literal_word : List ℕ → Bool
is_literal_word word = is_path_text (literal_path word) && can_be_log (literal_path word)

-- a pattern, as it stands, is a path of 2,048 bytes at most
abbrev pub is_pattern_word : List ℕ → Bool
is_pattern_word word = is_path_text word && nat_le (length word) 2048

abbrev pub is_log_word : List ℕ → Bool
is_log_word word = if is_wildcard word then is_pattern_word word else is_literal_word word

-- a directory for the members, from any other on: one that a path can end with, of 512 bytes at most
abbrev pub is_olddir : List ℕ → Bool
is_olddir word = is_path_text (path_from (47 ∷ []) word) && nat_le (length word) 512

-- an ending of 1 to 128 bytes, without slashes, newlines and zero bytes, that isn't the one of a copy that isn't whole
abbrev pub is_extension : List ℕ → Bool
is_extension ending =
    nat_le 1 (length ending) && (nat_le (length ending) 128 &&
    (not (list_any is_slash ending) && (not (has_bad_byte ending) && not (ends_with part_end ending))))

-- an address of 1 to 256 bytes
abbrev pub is_address : List ℕ → Bool
is_address address = nat_le 1 (length address) && nat_le (length address) 256

-- ---- numbers

-- at most 999,999
abbrev pub is_small : ℕ → Bool
is_small n = nat_le n 999999

-- at most 2^63 - 1 bytes
abbrev pub is_size : ℕ → Bool
is_size n = nat_le n 9223372036854775807

-- permission bits of three or four octal digits
abbrev pub is_mode : ℕ → Bool
is_mode n = nat_le n 4095

abbrev pub is_count : Count → Bool
is_count (count.Keep n) = is_small n
is_count count.Always = true

-- a count that a rule can have
abbrev pub IsCount : Count → Type 0
IsCount (count.Keep n) = n ≤ 999999
IsCount count.Always = Unit {0}

abbrev pub is_criterion : Criterion → Bool
is_criterion (criterion.Size n) = is_size n
is_criterion (criterion.Weekly day) = nat_le day 7
is_criterion _ = true

abbrev pub is_make : Make → Bool
is_make (make.Yes (Some mode)) = is_mode mode
is_make _ = true

-- ---- formats of dates

-- where the field stands among the parts of a moment, the longest first; the seconds since 1970 stand behind them
abbrev pub rank : Field → ℕ
rank field.Year = 0
rank field.Month = 1
rank field.Day = 2
rank field.Hour = 3
rank field.Minute = 4
rank field.Second = 5
rank field.Epoch = 6

abbrev pub is_rank : ℕ → Piece → Bool
is_rank k (piece.Byte b) = false
is_rank k (piece.Field f) = k == rank f

-- how many of the pieces are the field of this rank
abbrev pub times : ℕ → List Piece → ℕ
times k [] = 0
times k (p ∷ pieces) = if is_rank k p then 1 + times k pieces else times k pieces

-- a byte that stands for itself
abbrev pub is_plain_piece : Piece → Bool
is_plain_piece (piece.Byte b) = not (b == 37 || (is_slash b || is_bad_byte b))
is_plain_piece (piece.Field f) = true

-- the letter of a field
abbrev pub letter : Field → ℕ
letter field.Year = 89
letter field.Month = 109
letter field.Day = 100
letter field.Hour = 72
letter field.Minute = 77
letter field.Second = 83
letter field.Epoch = 115

-- the bytes by which the format was written: `%` and a letter for a field
abbrev pub written : List Piece → List ℕ
written [] = []
written (piece.Byte b ∷ pieces) = b ∷ written pieces
written (piece.Field f ∷ pieces) = 37 ∷ letter f ∷ written pieces

-- no field of these ranks stands more than once, and where one stands, those before it do
abbrev pub are_first : List Piece → Bool
are_first pieces =
    times 0 pieces == 1 && (nat_le (times 1 pieces) (times 0 pieces) && (nat_le (times 2 pieces) (times 1 pieces)
    && (nat_le (times 3 pieces) (times 2 pieces) && (nat_le (times 4 pieces) (times 3 pieces) &&
    (nat_le (times 5 pieces) (times 4 pieces) && times 6 pieces == 0)))))

-- the seconds since 1970, once, and no other field
abbrev pub is_epoch_alone : List Piece → Bool
is_epoch_alone pieces =
    times 6 pieces == 1 && (times 0 pieces == 0 && (times 1 pieces == 0 &&
    (times 2 pieces == 0 && (times 3 pieces == 0 && (times 4 pieces == 0 && times 5 pieces == 0)))))

abbrev pub is_format : Format → Bool
is_format f = list_all is_plain_piece f.pieces && (is_utf8 (written f.pieces) &&
    (nat_le (length (written f.pieces)) 64 && (are_first f.pieces || is_epoch_alone f.pieces)))

-- ---- rules

abbrev pub or_none : {A : Type 0} → (A → Bool) → Option A → Bool
or_none p None = true
or_none p (Some x) = p x

-- no value of the rule is one that a fault of a configuration refuses
abbrev pub meets_limits : Rule → Bool
meets_limits r =
    list_all is_log_word r.words
    && (is_criterion r.criterion
    && (is_count r.count
    && (or_none is_small r.maxage
    && (or_none is_small r.minage
    && (or_none is_size r.minsize
    && (or_none is_size r.maxsize
    && (is_small r.start
    && (or_none is_extension r.extension
    && (or_none is_extension r.addextension
    && (or_none is_olddir r.olddir
    && (is_make r.createolddir
    && (is_make r.create
    && (or_none is_address r.mail
    && or_none is_format r.dated)))))))))))))
