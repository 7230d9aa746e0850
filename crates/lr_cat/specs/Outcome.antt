-- What an outcome says: the exit status, and what is printed of it.
use Rattle.std.specs.Prelude.{ℕ, Bool, true, false, List, [], ◌∷◌, ◌++◌, Option, Some, None, codes}
use Rattle.std.specs.List.{concat}
use Rattle.lr_rules.specs.declared.path.Path.{Path}
use Rattle.lr_rules.specs.Names.{aside_path}
use Rattle.lr_report.specs.declared.outcome.Outcome.{Outcome}
use Rattle.lr_report.specs.declared.outcome.Outcome.TheVariants as outcome
use Rattle.lr_report.specs.Outcome.{status_of, outcome_text}
use Rattle.lr_cat.specs.declared.words.Wanted.{Wanted}
use Rattle.lr_cat.specs.Words.{wanted}
use Rattle.lr_cat.specs.declared.outcome.CatOutcome.{CatOutcome}
use Rattle.lr_cat.specs.declared.outcome.CatOutcome.TheVariants.{Done, BadWords, NoLog, Held, OutOfMemory}

abbrev pub cat_outcome : Outcome → CatOutcome
cat_outcome (outcome.Done report) = Done report false
cat_outcome outcome.BadWords = BadWords
cat_outcome outcome.Held = Held
cat_outcome outcome.OutOfMemory = OutOfMemory

-- as the program `logrotate` has it; 5 where no definition gives the log
abbrev pub cat_status_of : CatOutcome → ℕ
cat_status_of (Done report waits) = status_of (outcome.Done report)
cat_status_of BadWords = status_of outcome.BadWords
cat_status_of Held = status_of outcome.Held
cat_status_of OutOfMemory = status_of outcome.OutOfMemory
cat_status_of NoLog = 5

-- the line of a log that waits, set aside by a run that broke off
abbrev pub waits_line : Bool → Path → List ℕ
waits_line true log = concat (codes "logrotate: notice: " ∷ aside_path log ∷ codes ": waits for the next rotation\n" ∷ [])
waits_line false log = []

-- all that there is to say of an outcome, where the words name this log
abbrev pub notes_of : Path → CatOutcome → List ℕ
notes_of log (Done report waits) = outcome_text (outcome.Done report) ++ waits_line waits log
notes_of log BadWords = outcome_text outcome.BadWords
notes_of log Held = outcome_text outcome.Held
notes_of log OutOfMemory = outcome_text outcome.OutOfMemory
notes_of log NoLog = concat (codes "logrotate: " ∷ log ∷ codes ": not defined\n" ∷ [])

-- the log that is wanted, if one is
abbrev pub log_of : Option Wanted → Path
log_of None = []
log_of (Some w) = w.log

-- all that there is to say of the outcome of a call with these words
abbrev pub notes_text : Path → List (List ℕ) → CatOutcome → List ℕ
notes_text here words outcome = notes_of (log_of (wanted here words)) outcome
