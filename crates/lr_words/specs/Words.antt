-- Extensions, addresses and directories for the members.
use Rattle.std.specs.Prelude.{ℕ, ◌==◌, Bool, false, not, ◌&&◌, List, [], ◌∷◌, Result, Ok, Err, if◌then◌else◌}
use Rattle.std.specs.List.{list_any, slice_split}
use Rattle.lr_rules.specs.declared.fault.ConfKind.{ConfKind}
use Rattle.lr_rules.specs.declared.fault.ConfKind.TheVariants as kind
use Rattle.lr_rules.specs.Limits.{is_extension, is_address, is_olddir}
use Rattle.lr_rules.specs.Path.{is_slash, is_empty}

-- the word itself, where it is one of these
abbrev pub or_bad_path : Bool → List ℕ → Result (List ℕ) ConfKind
or_bad_path is word = if is then Ok word else Err kind.BadPath

-- what the names of members end with, `extension` and `addextension`
unfoldable pub extension_value : List ℕ → Result (List ℕ) ConfKind
extension_value word = or_bad_path (is_extension word) word

-- to whom `mail` goes
unfoldable pub address_value : List ℕ → Result (List ℕ) ConfKind
address_value word = or_bad_path (is_address word) word

-- an absolute directory, or one from that of the log on
unfoldable pub olddir_value : List ℕ → Result (List ℕ) ConfKind
olddir_value word = or_bad_path (not (is_empty word) && is_olddir word) word

-- ---- parts of a word

-- `..`
abbrev pub is_climb : List ℕ → Bool
is_climb [] = false
is_climb (b ∷ []) = false
is_climb (b ∷ c ∷ []) = b == 46 && c == 46
is_climb (b ∷ c ∷ d ∷ bs) = false

-- a part of the word is `..`
abbrev pub has_climb : List ℕ → Bool
has_climb word = list_any is_climb (slice_split is_slash word)
