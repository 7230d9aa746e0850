-- What the words of the command line want: `[-s FILE] CONF LOG`.
use Rattle.std.specs.Prelude.{ℕ, Bool, ◌&&◌, List, [], ◌∷◌, length, nat_le, bytes_eq, codes, Option, Some, None}
use Rattle.std.specs.Prelude.{if◌then◌else◌}
use Rattle.lr_rules.specs.declared.path.Path.{Path}
use Rattle.lr_rules.specs.Path.{cleaned, last_of}
use Rattle.lr_command.specs.Words.{has_state, is_name, state_by}
use Rattle.lr_cat.specs.declared.words.Wanted.{Wanted}

-- what a log's path may be: at most 2,048 bytes, and a last part of 1 to 255
abbrev pub has_log_lengths : List ℕ → Bool
has_log_lengths path = nat_le (length path) 2048 && (nat_le 1 (length (last_of path)) && nat_le (length (last_of path)) 255)

-- LOG names a path that a log may have
abbrev pub has_log : Path → List ℕ → Bool
has_log here log = is_name here log && has_log_lengths (cleaned here log)

-- what is wanted, where each path can be what it is wanted as
abbrev pub wanted_by : Path → Option (List ℕ) → List ℕ → List ℕ → Option Wanted
wanted_by here file conf log =
    if has_state here file && (is_name here conf && has_log here log) then Some
    (record { state = state_by here file; confs = cleaned here conf ∷ []; log = cleaned here log }) else None

-- What the words want, from the directory `here` on. Else they want nothing.
abbrev pub wanted : Path → List (List ℕ) → Option Wanted
wanted here (conf ∷ log ∷ []) = wanted_by here None conf log
wanted here (option ∷ file ∷ conf ∷ log ∷ []) = if bytes_eq option (codes "-s") then wanted_by here (Some file) conf log else None
wanted here _ = None
