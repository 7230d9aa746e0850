-- What an outcome says: the exit status, and what is printed of it.
use Rattle.std.specs.Prelude.{ℕ, List, [], ◌∷◌, codes}
use Rattle.lr_report.specs.declared.outcome.Outcome.{Outcome}
use Rattle.lr_report.specs.declared.outcome.Outcome.TheVariants.{Done, BadWords, Held, OutOfMemory}
use Rattle.lr_report.specs.Lines.{line, report_lines}

-- 0 where there is no fault, else 1
abbrev pub some_fault : {A : Type 0} → List A → ℕ
some_fault [] = 0
some_fault (f ∷ fs) = 1

abbrev pub status_of : Outcome → ℕ
status_of (Done report) = some_fault report.faults
status_of BadWords = 2
status_of Held = 3
status_of OutOfMemory = 4

-- all that there is to say of an answer: the lines of its report, or one line
abbrev pub outcome_text : Outcome → List ℕ
outcome_text (Done report) = report_lines report.notices report.faults
outcome_text BadWords = line (codes "bad command line")
outcome_text Held = line (codes "state file is locked")
outcome_text OutOfMemory = line (codes "out of memory")
