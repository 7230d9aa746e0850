-- Names of logs, and the paths that words name.
use Rattle.std.specs.Prelude.{◌≡◌, ℕ, Bool, true, false, ◌==◌, not, ◌&&◌, List, [], ◌∷◌, ◌++◌, Option, Some, None, Result, Ok, Err}
use Rattle.std.specs.Prelude.{length, nat_le, is_none, if◌then◌else◌}
use Rattle.std.specs.List.{slice_split}
use Rattle.lr_rules.specs.declared.fault.ConfKind.{ConfKind}
use Rattle.lr_rules.specs.declared.fault.ConfKind.TheVariants as kind
use Rattle.lr_rules.specs.Limits.{can_be_log}
use Rattle.lr_rules.specs.Match.{is_wildcard, literal_path}
use Rattle.lr_rules.specs.Path.{path_fault, word_fault, is_slash, is_absolute, cleaned, root}

-- ---- paths

-- an absolute word names a path
abbrev pub names_path : List ℕ → Bool
names_path word = is_absolute word && is_none (word_fault root word)

-- the path that an absolute word names, without empty parts and `.` parts; none where it names none
abbrev pub path_named : List ℕ → Option (List ℕ)
path_named word = if names_path word then Some (cleaned root word) else None

-- the path of an `include`
unfoldable pub include_value : List ℕ → Result (List ℕ) ConfKind
include_value word = if names_path word then Ok (cleaned root word) else Err kind.BadPath

-- ---- literal names of logs

-- a word without the backslashes that escape names the path of a log
abbrev pub names_log : List ℕ → Bool
names_log literal = names_path literal && can_be_log (cleaned root literal)

-- a part of a name that is a part of its path: it is neither empty nor `.`, also with a backslash before the dot
abbrev pub is_path_part : List ℕ → Bool
is_path_part [] = false
is_path_part (b ∷ []) = not (b == 46)
is_path_part (b ∷ c ∷ []) = not (b == 92 && c == 46)
is_path_part (b ∷ c ∷ d ∷ bs) = true

abbrev pub behind_word_slash : List ℕ → List ℕ
behind_word_slash part = if is_path_part part then 47 ∷ part else []

abbrev pub behind_word_slashes : List (List ℕ) → List ℕ
behind_word_slashes [] = []
behind_word_slashes (part ∷ parts) = behind_word_slash part ++ behind_word_slashes parts

-- the name as a rule has it: with its backslashes, without the parts that its path drops
abbrev pub kept_name : List ℕ → List ℕ
kept_name word = behind_word_slashes (slice_split is_slash word)

-- A literal name as a rule has it: no pattern, and its path, without the backslashes that escape, is one that a log can have.
pub record IsLogWord (word : List ℕ) : Type 0 where
  pub no_pattern : is_wildcard word ≡ false
  pub path : path_fault (literal_path word) ≡ None
  pub log : can_be_log (literal_path word) ≡ true

abbrev pub literal_value : List ℕ → Result (List ℕ) ConfKind
literal_value word = if names_log (literal_path word) then Ok (kept_name word) else Err kind.BadPath

-- ---- patterns

-- a pattern names a path as it stands, of 2,048 bytes at most
abbrev pub names_pattern : List ℕ → Bool
names_pattern word = names_path word && nat_le (length (cleaned root word)) 2048

abbrev pub pattern_value : List ℕ → Result (List ℕ) ConfKind
pattern_value word = if names_pattern word then Ok (cleaned root word) else Err kind.BadPath

-- ---- names of logs

-- the name as a rule has it: without empty parts and `.` parts, and with its backslashes
unfoldable pub log_name_value : List ℕ → Result (List ℕ) ConfKind
log_name_value word = if is_wildcard word then pattern_value word else literal_value word
