-- What a call prints, and what its report says beside the output's own fault.
use Rattle.std.specs.Prelude.{ℕ, List, [], ◌∷◌, ◌++◌}
use Rattle.lr_rules.specs.declared.fault.Fault.{Fault}
use Rattle.lr_rules.specs.declared.fault.Fault.TheVariants as fault
use Rattle.lr_report.specs.declared.outcome.Outcome.{Outcome}
use Rattle.lr_report.specs.declared.outcome.Outcome.TheVariants.{Done, BadWords, Held, OutOfMemory}
use Rattle.lr_report.specs.Outcome.{outcome_text}

-- the fault alone, and nothing for `Out`
abbrev pub no_out : Fault → List Fault
no_out fault.Out = []
no_out f = f ∷ []

-- the faults but a last `Out`
abbrev pub but_out : List Fault → List Fault
but_out [] = []
but_out (f ∷ []) = no_out f
but_out (f ∷ g ∷ fs) = f ∷ but_out (g ∷ fs)

-- the answer, its `Out` left aside
abbrev pub without_out : Outcome → Outcome
without_out (Done report) = Done (record { notices = report.notices; faults = but_out report.faults })
without_out BadWords = BadWords
without_out Held = Held
without_out OutOfMemory = OutOfMemory

-- What is printed of an answer: the text of the plan, where there is one to print, and then its own text but for the line of `Out`,
-- which only comes where the output failed.
abbrev pub printed_of : List ℕ → Outcome → List ℕ
printed_of planned outcome = planned ++ outcome_text (without_out outcome)
