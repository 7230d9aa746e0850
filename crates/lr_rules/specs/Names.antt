-- How the members of a log are named, and when the names of two logs meet.
use Rattle.std.specs.Prelude.{◌≡◌, ◌⊎◌, ◌+◌, ◌-◌, ◌≤◌, ◌<◌, ℕ, List, [], ◌∷◌, ◌++◌, length, take, drop, filter, flat_map, All}
use Rattle.std.specs.Prelude.{Option, Some, None, Bool, true, false, not, cond, ◌&&◌, ◌||◌, nat_le, bytes_eq, decimal, codes}
use Rattle.std.specs.List.{slice_split}
use Rattle.lr_rules.specs.declared.path.Path.{Path}
use Rattle.lr_rules.specs.declared.rule.Rule.{Rule}
use Rattle.lr_rules.specs.declared.rule.Naming.{Naming}
use Rattle.lr_rules.specs.declared.rule.Format.{Format}
use Rattle.lr_rules.specs.declared.rule.Way.{Way}
use Rattle.lr_rules.specs.declared.rule.Way.TheVariants as way
use Rattle.lr_rules.specs.declared.rule.Piece.{Piece}
use Rattle.lr_rules.specs.declared.rule.Piece.TheVariants as piece
use Rattle.lr_rules.specs.declared.rule.Field.{Field}
use Rattle.lr_rules.specs.declared.rule.Field.TheVariants as field
use Rattle.lr_rules.specs.Path.{parent_of, last_of, joined, is_absolute, is_slash, is_empty}
use Rattle.lr_rules.specs.Match.{part_end}

-- ---- the naming that a rule gives a log

-- neither empty nor `.`
abbrev pub is_step : List ℕ → Bool
is_step part = not (is_empty part || bytes_eq part (46 ∷ []))

-- the parts of a word, without empty ones and `.`
abbrev pub word_parts : List ℕ → List (List ℕ)
word_parts word = filter is_step (slice_split is_slash word)

-- the path of these parts
abbrev pub path_by : List (List ℕ) → List ℕ
path_by [] = 47 ∷ []
path_by (part ∷ parts) = flat_map (λ name. 47 ∷ name) (part ∷ parts)

-- the path of a word; a relative one goes on from a directory
abbrev pub path_from : Path → List ℕ → List ℕ
path_from here word = cond (is_absolute word) (path_by (word_parts word)) (path_by (word_parts here ++ word_parts word))

-- the directory of the family: that of the log, or `olddir`, from there on
abbrev pub family_dir : Path → Option (List ℕ) → List ℕ
family_dir here None = here
family_dir here (Some olddir) = path_from here olddir

abbrev pub ends_with : List ℕ → List ℕ → Bool
ends_with end name = nat_le (length end) (length name) && bytes_eq (drop (length name - length end) name) end

abbrev pub without : List ℕ → List ℕ → List ℕ
without end name = take (length name - length end) name

-- the extension of the members: `addextension`, or `extension` where the log's name ends with it
abbrev pub ext_of : Option (List ℕ) → Option (List ℕ) → List ℕ → List ℕ
ext_of (Some added) extension name = added
ext_of None (Some extension) name = cond (ends_with extension name) extension []
ext_of None None name = []

-- the base of the members: the log's name, without the extension where it ends with that
abbrev pub base_of : List ℕ → List ℕ → List ℕ
base_of ext name = cond (ends_with ext name) (without ext name) name

-- ---- a log that is set aside

-- where a log waits that is set aside
abbrev pub aside_path : Path → Path
aside_path log = log ++ codes ".tmp"

-- the path is that where the log waits that is set aside
abbrev pub IsBesideLog : Path → Naming → Path → Type 0
IsBesideLog log n x = (n.aside ≡ true) × (x ≡ aside_path log)

-- the way sets the log aside before it is copied
abbrev pub is_aside : Way → Bool
is_aside way.RenameCopy = true
is_aside _ = false

-- the naming that the rule gives the log
abbrev pub naming_of : Rule → Path → Naming
naming_of r log = record {
  dir = family_dir (parent_of log) r.olddir;
  base = base_of (ext_of r.addextension r.extension (last_of log)) (last_of log);
  ext = ext_of r.addextension r.extension (last_of log);
  start = r.start;
  dated = r.dated;
  aside = is_aside r.way;
}

-- ---- members

-- The path is that of the numbered member at this place; place 0 is the newest.
pub record IsMemberAt (n : Naming) (place : ℕ) (x : Path) : Type 0 where
  pub bound : n.start + place ≤ 4294967295
  pub named : x ≡ joined n.dir (n.base ++ 46 ∷ decimal (n.start + place) ++ n.ext)

-- ---- shapes of names

abbrev pub AreDigits : List ℕ → Type 0
AreDigits ds = All (λ d. (48 ≤ d) × (d ≤ 57)) ds

-- one or more digits
abbrev pub IsRun : List ℕ → Type 0
IsRun ds = (0 < length ds) × AreDigits ds

-- as many digits as the field has; the seconds since 1970 are a run of them
abbrev pub IsFieldShape : Field → List ℕ → Type 0
IsFieldShape field.Year ds = (length ds ≡ 4) × AreDigits ds
IsFieldShape field.Epoch ds = IsRun ds
IsFieldShape _ ds = (length ds ≡ 2) × AreDigits ds

-- a stamp's shape: each byte itself, each field digits
abbrev pub IsStampShape : List Piece → List ℕ → Type 0
IsStampShape [] bytes = bytes ≡ []
IsStampShape (piece.Byte b ∷ pieces) bytes = (rest : List ℕ) × (bytes ≡ b ∷ rest) × IsStampShape pieces rest
IsStampShape (piece.Field f ∷ pieces) bytes = (ds rest : List ℕ) × (bytes ≡ ds ++ rest) × IsFieldShape f ds
    × IsStampShape pieces rest

-- a dot and a run of digits
abbrev pub number_pieces : List Piece
number_pieces = piece.Byte 46 ∷ piece.Field field.Epoch ∷ []

-- what stands between base and extension: a dot and a run of digits, or a stamp, and behind it a serial number where the format has
-- those
abbrev pub IsMiddleShape : Option Format → List ℕ → Type 0
IsMiddleShape None middle = (ds : List ℕ) × (middle ≡ 46 ∷ ds) × IsRun ds
IsMiddleShape (Some format) middle = IsStampShape format.pieces middle
    ⊎ ((format.serial ≡ true) × IsStampShape (format.pieces ++ number_pieces) middle)

-- the last part of a path has the shape of a member, whatever its digits say
abbrev pub IsMemberShape : Naming → List ℕ → Type 0
IsMemberShape n last = (middle : List ℕ) × IsMiddleShape n.dated middle × (last ≡ n.base ++ middle ++ n.ext)

-- the path has the shape of a member
abbrev pub HasMemberShape : Naming → Path → Type 0
HasMemberShape n x = (last : List ℕ) × IsMemberShape n last × (x ≡ joined n.dir last)

-- ---- the names of a set

-- The path is the log, where it waits while it is set aside, has a member's shape, or that shape with the ending of a copy that
-- isn't whole.
pub data IsOwnName (log : Path) (n : Naming) (x : Path) : Type 0 where
  the_log : x ≡ log → IsOwnName log n x
  set_aside : n.aside ≡ true → x ≡ aside_path log → IsOwnName log n x
  a_member : (last : List ℕ) → IsMemberShape n last → x ≡ joined n.dir last → IsOwnName log n x
  a_part : (last : List ℕ) → IsMemberShape n last → x ≡ joined n.dir (last ++ part_end) → IsOwnName log n x

-- The set meets the path: it is one of its names, the directory of the family among them.
abbrev pub IsName : Path → Naming → Path → Type 0
IsName log n x = IsOwnName log n x ⊎ (x ≡ n.dir)

-- Two sets meet: a name of the one is a name of the other, and not the directory of both alone.
abbrev pub Meet : Path → Naming → Path → Naming → Type 0
Meet log n other m = (x : Path) × ((IsOwnName log n x × IsName other m x) ⊎ (IsName log n x × IsOwnName other m x))
