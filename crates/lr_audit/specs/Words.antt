-- What the words of the command line want: `[-s FILE] CONF..`.
use Rattle.std.specs.Prelude.{ℕ, Bool, false, ◌&&◌, List, [], ◌∷◌, map, bytes_eq, codes, Option, Some, None}
use Rattle.std.specs.Prelude.{if◌then◌else◌}
use Rattle.std.specs.List.{list_all}
use Rattle.lr_rules.specs.declared.path.Path.{Path}
use Rattle.lr_rules.specs.Path.{cleaned}
use Rattle.lr_command.specs.Words.{has_state, is_name, state_by}
use Rattle.lr_audit.specs.declared.words.Wanted.{Wanted}

-- each of the words names a path, and is no option; and there is one at least
abbrev pub are_names : Path → List (List ℕ) → Bool
are_names here [] = false
are_names here (word ∷ words) = list_all (is_name here) (word ∷ words)

-- what is wanted, where each path can be what it is wanted as
abbrev pub wanted_by : Path → Option (List ℕ) → List (List ℕ) → Option Wanted
wanted_by here file confs = if has_state here file && are_names here confs then Some (record {
  state = state_by here file;
  confs = map (cleaned here) confs;
}) else None

-- what the words behind `-s` want
abbrev pub wanted_behind : Path → List (List ℕ) → Option Wanted
wanted_behind here [] = None
wanted_behind here (file ∷ confs) = wanted_by here (Some file) confs

-- What the words want, from the directory `here` on. Else they want nothing.
abbrev pub wanted : Path → List (List ℕ) → Option Wanted
wanted here [] = None
wanted here (word ∷ words) = if bytes_eq word (codes "-s") then wanted_behind here words else wanted_by here None (word ∷ words)
