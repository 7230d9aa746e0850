-- A table of names and moments, in its order.
use Rattle.std.specs.Prelude.{Bool, true, not, ◌&&◌, ◌≡◌, ℕ, pos, int_lt, nat_lt, nat_le, List, [], ◌∷◌, length, Option}
use Rattle.std.specs.Prelude.{Some, None, is_some, if◌then◌else◌}
use Rattle.std.specs.Borrow.{Bor}
use Rattle.std.specs.Str.{bytes_eq, is_utf8}
use Rattle.lr_rules.specs.Between.{seconds_between}
use Rattle.lr_rules.specs.Path.{has_bad_byte}
use Rattle.lr_rules.specs.declared.civil.Civil.{Civil}

abbrev pub StateEntry : Type 0
StateEntry = List ℕ × Civil

-- the moment at a name
unfoldable pub moment_of : List StateEntry → List ℕ → Option Civil
moment_of [] name = None
moment_of (e ∷ es) name = if bytes_eq name e.0 then Some e.1 else moment_of es name

-- the table with the moment at the name, which goes last where it is new
unfoldable pub put : List StateEntry → List ℕ → Civil → List StateEntry
put [] name at = (name, at) ∷ []
put (e ∷ es) name at = if bytes_eq name e.0 then ((e.0, at) ∷ es) else (e ∷ put es name at)

-- a name of a log: 1 to 4,096 bytes of UTF-8 without a newline or zero byte
unfoldable pub is_name : List ℕ → Bool
is_name name = nat_lt 0 (length name) && nat_le (length name) 4096 && is_utf8 name && not (has_bad_byte name)

-- each entry has a name of a log, and no name stands twice
unfoldable pub is_table : List StateEntry → Bool
is_table [] = true
is_table (e ∷ es) = is_name e.0 && not (is_some (moment_of es e.0)) && is_table es

-- more than 366 times 86,400 civil seconds before now
abbrev pub is_old : Civil → Civil → Bool
is_old at now = int_lt (pos 31_622_400) (seconds_between at now)

-- a closure on names answers by the test
abbrev pub IsNameTest : (Bor (List ℕ) → Bool → Type 0) → (List ℕ → Bool) → Type 0
IsNameTest post t = (name : Bor (List ℕ)) (b : Bool) → post name b → b ≡ t name.now
