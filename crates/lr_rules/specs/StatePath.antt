-- The path of a state file, and of the two files beside it.
use Rattle.std.specs.Prelude.{ℕ, Bool, ◌&&◌, List, ◌++◌, length, nat_le, codes}
use Rattle.lr_rules.specs.declared.path.Path.{Path}
use Rattle.lr_rules.specs.Path.{last_of}

-- what a state file's path may be: at most 4,000 bytes, and a last part
abbrev pub can_be_state : List ℕ → Bool
can_be_state path = nat_le (length path) 4000 && nat_le 1 (length (last_of path))

-- the file that a new text is first written to
abbrev pub state_part : Path → Path
state_part state = state ++ codes ".tmp"

-- the file whose lock keeps a second run out
abbrev pub state_lock : Path → Path
state_lock state = state ++ codes ".lock"
