-- The request of a call.
use Rattle.std.specs.Prelude.{◌≡◌, ◌||◌, ℕ, List, [], Option, Some, None, if◌then◌else◌}
use Rattle.lr_rules.specs.declared.path.Path.{Path}
use Rattle.lr_plan.specs.declared.plan.Plan.{Plan}
use Rattle.lr_command.specs.declared.request.Request.{Request}
use Rattle.lr_command.specs.Words.{asked_request}
use Rattle.lr_shown.specs.Lines.{plan_text}

-- the words ask for this request, from the directory `here` on
abbrev pub AskFor : Path → List (List ℕ) → Request → Type 0
AskFor here words request = asked_request here words ≡ Some request

-- they ask for none
abbrev pub AskForNone : Path → List (List ℕ) → Type 0
AskForNone here words = asked_request here words ≡ None

-- What is printed of a plan, where the call came to one: what was decided of each log, where that is asked for, and in a dry run
-- the steps too.
abbrev pub planned_text : Request → Option Plan → List ℕ
planned_text request None = []
planned_text request (Some plan) = if request.settings.debug || request.settings.verbose then plan_text request.settings.state
    request.settings.debug plan else []
