-- What proofs go by between a call's functions.
use Rattle.std.specs.Prelude.{◌≡◌, ℤ, List, [], Option, Some, None, false}
use Rattle.lr_rules.specs.declared.clock.Clock.{Clock}
use Rattle.lr_due.specs.declared.tz.Zone.{Zone}
use Rattle.lr_host.specs.declared.entry.Entry.{Entry}
use Rattle.lr_host.specs.declared.journal.Journal.{Journal}
use Rattle.lr_host.specs.Quiet.{AreQuiet}
use Rattle.lr_host.specs.Told.{Left}
use Rattle.lr_laws_rotations.specs.Runs.{IsWholeRunBy}
use Rattle.lr_plan.specs.declared.plan.Plan.{Plan}
use Rattle.lr_run.specs.Ran.{TellsNamesOf}
use Rattle.lr_command.specs.declared.request.Request.{Request}
use Rattle.lr_report.specs.declared.outcome.Outcome.{Outcome}
use Rattle.lr_report.specs.declared.outcome.Outcome.TheVariants.{Done}
use Rattle.lr_report.specs.declared.outcome.Report.{Report}
use Rattle.lr_cli.specs.Called.{Came, ConfsHalt, ShowsConfs, PlanEnds, call_entries}
use Rattle.lr_cli.specs.Safe.{HadClock}

-- Where there was no clock, the call only looked and listed and read; by a clock it made a run, as far as it came.
pub data TurnsByClock (zone : Zone) (seconds : ℤ) (told later : Option Journal) : Type 0 where
  only_looked : Left AreQuiet told later → TurnsByClock zone seconds told later
  ran : (clock : Clock) → HadClock zone seconds clock told later → Left (IsWholeRunBy clock) told later
      → TurnsByClock zone seconds told later

-- Behind its clock a call halted, or it came to its plan.
pub data ConfsEnd (request : Request) (clock : Clock) (plan : Option Plan) (outcome : Outcome) (came : Option Came)
    (ts : List Entry) : Type 0 where
  confs_halted : came ≡ None → plan ≡ None → ConfsHalt request clock outcome ts → ConfsEnd request clock plan outcome came ts
  confs_called : (c : Came) → came ≡ Some c → c.clock ≡ clock → c.of_clock ≡ [] → ShowsConfs request c
      → PlanEnds request.settings.debug request c plan outcome → ts ≡ call_entries request c
      → ConfsEnd request clock plan outcome came ts

-- What a part of a call left, by what it came to, where it came to a plan; and of that the journal tells the names besides.
pub record CameTo (P : Option Came → List Entry → Type 0) (request : Request) (outcome : Outcome)
    (told later : Option Journal) : Type 0 where
  pub came : Option Came
  pub shows : Left (P came) told later
  pub names : (c : Came) (report : Report) → came ≡ Some c → outcome ≡ Done report → request.settings.debug ≡ false
      → TellsNamesOf request.settings.state c.clock c.work told later
