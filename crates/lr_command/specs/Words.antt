-- What the words of the command line ask for.
use Rattle.std.specs.Prelude.{◌≡◌, refl, ℕ, Bool, true, false, not, ◌&&◌, ◌==◌, List, [], ◌∷◌, map}
use Rattle.std.specs.Prelude.{Option, Some, None, is_none, codes, if◌then◌else◌}
use Rattle.std.specs.List.{list_all}
use Rattle.clap.specs.Words.{Row}
use Rattle.lr_rules.specs.declared.path.Path.{Path}
use Rattle.lr_rules.specs.declared.settings.Settings.{Settings}
use Rattle.lr_rules.specs.Path.{cleaned, word_fault}
use Rattle.lr_rules.specs.StatePath.{can_be_state}
use Rattle.lr_command.specs.declared.request.Request.{Request}
use Rattle.lr_command.specs.Command.{are_taken, found_in, has_flag, option_value, words_of}

-- ---- paths

-- the word names a path
abbrev pub is_path : Path → List ℕ → Bool
is_path here word = is_none (word_fault here word)

-- so does the value, where there is one
abbrev pub may_be_path : Path → Option (List ℕ) → Bool
may_be_path here None = true
may_be_path here (Some word) = is_path here word

-- the path that the value names, else this one
abbrev pub path_or : Path → Path → Option (List ℕ) → Path
path_or here other None = other
path_or here other (Some word) = cleaned here word

-- the word begins as an option does
abbrev pub is_option : List ℕ → Bool
is_option [] = false
is_option (b ∷ bs) = b == 45

-- the word names a path, and is no option
abbrev pub is_name : Path → List ℕ → Bool
is_name here word = not (is_option word) && is_path here word

-- ---- the program's own paths

-- the path of the state file: what FILE names, else the program's own
abbrev pub state_by : Path → Option (List ℕ) → Path
state_by here file = path_or here (codes "/var/lib/logrotate/status") file

-- a state file may have this path
abbrev pub has_state : Path → Option (List ℕ) → Bool
has_state here file = may_be_path here file && can_be_state (state_by here file)

-- the program that mails files, where no other is named
abbrev pub mail_program : Path
mail_program = codes "/usr/bin/mail"

-- ---- the request

-- FILE, where the words have it
abbrev pub state_value : List Row → Option (List ℕ)
state_value found = option_value (codes "state") found

abbrev pub state_in : Path → List Row → Path
state_in here found = state_by here (state_value found)

abbrev pub mailer_in : Path → List Row → Path
mailer_in here found = path_or here mail_program (option_value (codes "mail") found)

abbrev pub confs_in : Path → List Row → List Path
confs_in here found = map (cleaned here) (words_of (codes "conf") found)

-- COMMAND names a path
abbrev pub has_mailer : Path → List Row → Bool
has_mailer here found = may_be_path here (option_value (codes "mail") found)

-- each CONF names a path
abbrev pub has_confs : Path → List Row → Bool
has_confs here found = list_all (is_path here) (words_of (codes "conf") found)

-- each word that was found where a path is asked for names one
abbrev pub are_paths : Path → List Row → Bool
are_paths here found = may_be_path here (state_value found) && (has_mailer here found && has_confs here found)

-- the settings with these paths and with the flags that were found
abbrev pub settings_with : (state mailer : Path) → List Row → can_be_state state ≡ true → Settings
settings_with state mailer found fits = record {
  state = state;
  mailer = mailer;
  force = has_flag (codes "force") found;
  debug = has_flag (codes "debug") found;
  verbose = has_flag (codes "verbose") found;
  state_fits = fits;
}

-- the request of what was found, where the state file can have its path
abbrev pub request_in : (here : Path) (found : List Row) → can_be_state (state_in here found) ≡ true → Request
request_in here found fits = record {
  settings = settings_with (state_in here found) (mailer_in here found) found fits;
  confs = confs_in here found;
}

-- the same by whether it can, and whether each path is one
abbrev pub request_if : (here : Path) (found : List Row) (fits paths : Bool) → can_be_state (state_in here found) ≡ fits
    → Option Request
request_if here found true true is = Some (request_in here found is)
request_if here found _ _ is = None

-- it, where each path is one and the state file can have its own
abbrev pub request_where : Path → List Row → Option Request
request_where here found = request_if here found (can_be_state (state_in here found)) (are_paths here found) refl

-- The request that the words ask for, from the directory `here` on: `clap` takes them, each path that they name is one, and the
-- state file can have its own. Else they ask for none.
unfoldable pub asked_request : Path → List (List ℕ) → Option Request
asked_request here words = if are_taken words then request_where here (found_in words) else None
