-- The command line of the program, in the words of `clap`.
use Rattle.std.specs.Prelude.{ℕ, Bool, List, [], ◌∷◌, true, false, Some, codes, unwrap_or, Option, nat_lt}
use Rattle.clap.specs.Lexer.{usize_max}
use Rattle.clap.specs.Words.{App, Kinds, Row, Rule, Text, new_app, new_rule, with_rule, fault_of, matches_of, first_of, all_of}
use Rattle.clap.specs.Words.{count_of}
use Rattle.clap.specs.declared.builder.action.ArgAction.TheVariants.{Append, Count, Set}

-- ---- the one command value

-- a flag, which may stand any number of times
abbrev pub counted_flag : Text → ℕ → Rule
counted_flag name letter = record (new_rule name) {
  short = Some letter;
  long = Some name;
  action = Some Count;
}

-- an option with one value, at most once
abbrev pub valued : Text → ℕ → Rule
valued name letter = record (new_rule name) {
  short = Some letter;
  long = Some name;
  action = Some Set;
}

-- one or more words
abbrev pub some_words : Text → Rule
some_words name = record (new_rule name) {
  range = Some (record { start_inclusive = 1; end_inclusive = usize_max });
  action = Some Append;
  required = true;
}

-- a command whose words begin behind its name, without help and version
abbrev pub bare_command : Text → App
bare_command name = record (new_app name) {
  top = record (new_app name).top { no_binary_name = true; disable_help_flag = true };
}

-- `-d --debug`, `-f --force` and `-v --verbose`, each any number of times; `-s --state FILE` and `-m --mail COMMAND`, each at most
-- once; one or more CONF.
unfoldable pub command : App
command =
    with_rule (with_rule (with_rule (with_rule (with_rule (with_rule (bare_command (codes "logrotate"))
    (counted_flag (codes "debug") 100))
    (counted_flag (codes "force") 102))
    (counted_flag (codes "verbose") 118))
    (valued (codes "state") 115))
    (valued (codes "mail") 109))
    (some_words (codes "conf"))

-- ---- what `clap` makes of words

abbrev pub has_no_fault : Kinds → Bool
has_no_fault [] = true
has_no_fault (kind ∷ kinds) = false

-- it takes them: it has no fault to tell
unfoldable pub are_taken : List Text → Bool
are_taken words = has_no_fault (fault_of command words)

-- what it finds in words that it takes, argument by argument
unfoldable pub found_in : List Text → List Row
found_in words = matches_of command words

-- whether a flag was found
abbrev pub has_flag : Text → List Row → Bool
has_flag name found = nat_lt 0 (count_of name found)

-- the value of an option, where it was found
abbrev pub option_value : Text → List Row → Option Text
option_value name found = first_of name found

-- the words of an argument that takes several, in order
abbrev pub words_of : Text → List Row → List Text
words_of name found = unwrap_or (all_of name found) []
