-- The printed text of a plan.
use Rattle.std.specs.Prelude.{ℕ, Bool, List, [], ◌∷◌, ◌++◌, drop, codes, slice_index_or, if◌then◌else◌}
use Rattle.std.specs.List.{concat, flat_map}
use Rattle.lr_rules.specs.declared.path.Path.{Path}
use Rattle.lr_rules.specs.declared.fault.Phase.{Phase}
use Rattle.lr_rules.specs.declared.fault.Phase.TheVariants as phase
use Rattle.lr_report.specs.Kinds.{phase_text}
use Rattle.lr_due.specs.declared.answer.Due.{Due}
use Rattle.lr_due.specs.declared.answer.Due.TheVariants as due
use Rattle.lr_due.specs.declared.answer.Why.{Why}
use Rattle.lr_due.specs.declared.answer.Why.TheVariants as why
use Rattle.lr_due.specs.declared.answer.WhyNot.{WhyNot}
use Rattle.lr_due.specs.declared.answer.WhyNot.TheVariants as why_not
use Rattle.lr_scripts.specs.declared.command.Command.{Command}
use Rattle.lr_scripts.specs.Commands.{behind_spaces}
use Rattle.lr_plan.specs.declared.plan.Plan.{Plan}
use Rattle.lr_plan.specs.declared.step.SetSteps.{SetSteps}
use Rattle.lr_plan.specs.declared.step.Step.{Step}
use Rattle.lr_plan.specs.declared.step.Step.TheVariants.{Runs, Removes, MakesDir, Renames, Creates, Copies, Truncates}
use Rattle.lr_plan.specs.Steps.{input_of, steps_of_plan}

-- ---- decisions

-- why a log is due
abbrev pub why_text : Why → List ℕ
why_text why.Forced = codes "forced"
why_text why.Size = codes "size"
why_text why.MaxSize = codes "maxsize"
why_text why.Calendar = codes "calendar"
why_text why.Future = codes "future"

-- why it isn't
abbrev pub why_not_text : WhyNot → List ℕ
why_not_text why_not.Young = codes "young"
why_not_text why_not.Empty = codes "empty"
why_not_text why_not.Small = codes "small"
why_not_text why_not.Early = codes "early"

-- the line of a log: whether it is due, and why
abbrev pub due_line : Path → Due → List ℕ
due_line log (due.Yes why) = concat (log ∷ codes ": due, " ∷ why_text why ∷ codes "\n" ∷ [])
due_line log (due.No why) = concat (log ∷ codes ": not due, " ∷ why_not_text why ∷ codes "\n" ∷ [])

abbrev pub decision_line : Path × Due → List ℕ
decision_line decision = due_line decision.0 decision.1

-- ---- steps

-- a script, which is handed to a shell as `-c TEXT NAME ARGS..`, by its phase and its arguments
abbrev pub script_line : Phase → Command → List ℕ
script_line p command = concat (codes "run " ∷ phase_text p ∷ behind_spaces (drop 3 command.args) ∷ codes "\n" ∷ [])

-- a mail, which is handed to a mailer as `-s SUBJECT ADDRESS`, by the file and the address
abbrev pub mail_line : Command → List ℕ
mail_line command = concat (codes "mail " ∷ input_of command.input ∷ codes " to " ∷ slice_index_or command.args 2 [] ∷ codes "\n" ∷
    [])

abbrev pub program_line : Phase → Command → List ℕ
program_line phase.Mail command = mail_line command
program_line p command = script_line p command

-- a line of one path, and one of two
abbrev pub path_line : List ℕ → Path → List ℕ
path_line does path = concat (does ∷ path ∷ codes "\n" ∷ [])

abbrev pub pair_line : List ℕ → Path → Path → List ℕ
pair_line does from to = concat (does ∷ from ∷ codes " " ∷ to ∷ codes "\n" ∷ [])

-- The line of a step. Those that only read or sync, or make the file that a copy goes to, have none.
abbrev pub step_line : Step → List ℕ
step_line (Runs p on command) = program_line p command
step_line (Removes path) = path_line (codes "remove ") path
step_line (MakesDir path mode) = path_line (codes "mkdir ") path
step_line (Renames from to) = pair_line (codes "rename ") from to
step_line (Creates path mode) = path_line (codes "create ") path
step_line (Copies from to limit) = pair_line (codes "copy ") from to
step_line (Truncates path) = path_line (codes "truncate ") path
step_line _ = []

abbrev pub lines_of : List Step → List ℕ
lines_of steps = flat_map step_line steps

-- ---- the plan

-- of one definition, in the order in which they are made
abbrev pub set_lines : SetSteps → List ℕ
set_lines set = lines_of (set.first ++ (flat_map (λ steps. steps) set.each ++ set.last))

-- of all definitions, and the state text
abbrev pub steps_text : Path → Plan → List ℕ
steps_text state plan = flat_map set_lines (steps_of_plan plan) ++ path_line (codes "state ") state

-- The text of a plan: a line for each decision, and, where they are asked for, those of its steps, the last of which writes the
-- state text.
abbrev pub plan_text : Path → Bool → Plan → List ℕ
plan_text state steps plan = flat_map decision_line plan.decisions ++ (if steps then steps_text state plan else [])
