-- What a call came to, what it shows of that and prints, and what it makes of the disk.
use Rattle.std.specs.Prelude.{◌≡◌, ◌⊎◌, ℕ, ℤ, List, [], Option, Some, None, Contains}
use Rattle.lr_rules.specs.declared.path.Path.{Path}
use Rattle.lr_rules.specs.declared.fault.Fault.TheVariants as fault
use Rattle.lr_host.specs.declared.journal.Journal.{Journal}
use Rattle.lr_host.specs.Told.{Counts, Left, Rose}
use Rattle.lr_due.specs.declared.tz.Zone.{Zone}
use Rattle.lr_clock.specs.Came.{WhereCame}
use Rattle.lr_laws.specs.StateWhole.{KeepsWhole}
use Rattle.lr_laws_acts.specs.Emptied.{EmptiesWhole}
use Rattle.lr_plan.specs.declared.plan.Plan.{Plan}
use Rattle.lr_report.specs.Puts.{Took, TookPart}
use Rattle.lr_command.specs.declared.request.Request.{Request}
use Rattle.lr_command.specs.Words.{asked_request}
use Rattle.lr_report.specs.declared.outcome.Outcome.{Outcome}
use Rattle.lr_report.specs.declared.outcome.Outcome.TheVariants.{Done}
use Rattle.lr_report.specs.declared.outcome.Report.{Report}
use Rattle.lr_cli.specs.Asked.{AskFor, planned_text}
use Rattle.lr_cli.specs.Before.{EndsBefore}
use Rattle.lr_cli.specs.Called.{Came, CallShows}
use Rattle.lr_cli.specs.Printed.{printed_of, without_out}
use Rattle.lr_cli.specs.Result.{IsCalled, IsTextOf, IsCopyIn}

-- the text of the plan that words ask to print
abbrev pub asked_text : Option Request → Option Plan → List ℕ
asked_text None plan = []
asked_text (Some request) plan = planned_text request plan

-- The text came whole, or a first part of it, where a put failed; and a report says which.
pub record Prints (text : List ℕ) (outcome : Outcome) (before after : Option (List ℕ)) (low high : ℕ) : Type 0 where
  -- What the output took: a first part of the text, and all of it unless a put failed.
  pub printed : TookPart text before after
  pub whole : Took text before after ⊎ Rose low high
  -- A report that wasn't printed whole has `Out`.
  pub broken_off : (report : Report) → outcome ≡ Done report → Took text before after ⊎ Contains report.faults fault.Out

-- All that is told of a call with these words, in this zone and at these seconds, by what it came to. Of its outcome the output's
-- own fault, `Out`, is left aside but for what was printed.
pub record Says (here : Path) (words : List (List ℕ)) (zone : Zone) (seconds : ℤ) (outcome : Outcome) (told later : Option Journal)
    (counted counts : Counts) (before after : Option (List ℕ)) (low high : ℕ) : Type 0 where
  -- what it came to, where it came to its plan; and the plan, which is known too where the host tells nothing
  pub came : Option Came
  pub plan : Option Plan
  -- its entries and its answer show it: the zone, what was read, the looks, and in a run that acts the begin, the acts of this
  -- plan, and the end; or why there was no plan
  pub shown : Left (CallShows here words zone seconds plan (without_out outcome) came) told later
  -- where it came to its plan: what it saw is true of the disk, and what it made of it
  pub called : (request : Request) → AskFor here words request
      → WhereCame came told later (λ c j k. IsCalled request c (without_out outcome) counted counts j k)
  -- one that ended before its plan left the disk as it was, and says why
  pub ended : came ≡ None → Left (EndsBefore here words zone (without_out outcome)) told later
  -- the state file that the words ask for is the old one or the new one, whole, at each moment of the call and after each cut that
  -- the machine may make then; the old one, where the call is dry or has no report
  pub state : (request : Request) → AskFor here words request
      → KeepsWhole request.settings.state (λ ts text. IsTextOf request.settings.debug (without_out outcome) came text) told later
  -- each log that is emptied is one for which a rule asks for a copy; and where writers spared that, it has the newest member's
  -- path just before, with all bytes that the log had as it was last read
  pub copied : EmptiesWhole (IsCopyIn came) told later
  -- what was printed of the plan, and of the answer
  pub prints : Prints (printed_of (asked_text (asked_request here words) plan) outcome) outcome before after low high
