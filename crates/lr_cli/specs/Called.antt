-- What a call of the program came to, as a value, and what its entries and its answer show of it: it ended before a plan, or it
-- came to one.
use Rattle.std.specs.Prelude.{◌≡◌, ◌⊎◌, ℕ, ℤ, Bool, true, false, List, [], ◌∷◌, ◌++◌, Option, Some, None}
use Rattle.lr_rules.specs.declared.clock.Clock.{Clock}
use Rattle.lr_rules.specs.declared.fault.Fault.{Fault}
use Rattle.lr_rules.specs.declared.path.Path.{Path}
use Rattle.lr_rules.specs.declared.rules.Rules.{Rules}
use Rattle.lr_host.specs.declared.entry.Entry.{Entry}
use Rattle.lr_host.specs.Told.{Then}
use Rattle.lr_due.specs.declared.tz.Zone.{Zone}
use Rattle.lr_conf.specs.Meaning.{Meaning}
use Rattle.lr_include.specs.Lacking.{LacksReading}
use Rattle.lr_include.specs.Stages.{Reads}
use Rattle.lr_plan.specs.Asked.{Asked, asking}
use Rattle.lr_plan.specs.declared.plan.Plan.{Plan}
use Rattle.lr_run.specs.Halt.{Halt, OfFaults, OfLock, OfMemory, Halts}
use Rattle.lr_run.specs.Work.{Work, ShowsWork, CarriesOut, BreaksOff, DidNothing, act_faults, run_entries, first_entries}
use Rattle.lr_command.specs.declared.request.Request.{Request}
use Rattle.lr_report.specs.declared.outcome.Outcome.{Outcome}
use Rattle.lr_report.specs.declared.outcome.Outcome.TheVariants.{Done, BadWords, Held, OutOfMemory}
use Rattle.lr_report.specs.declared.outcome.Report.{Report}
use Rattle.lr_cli.specs.Asked.{AskFor}
use Rattle.lr_clock.specs.Clock.{ShowsClock, LacksClock}
use Rattle.lr_clock.specs.Zone.{LacksZoneMemory}

-- ---- the value

-- What a call came to that came to its plan: its clock, what its configuration means and the rules of that, what its run came to,
-- and the entries that show the clock and the configuration.
pub record Came : Type 0 where
  pub clock : Clock
  pub meaning : Meaning
  pub rules : Rules
  pub work : Work
  pub of_clock : List Entry
  pub of_confs : List Entry

-- all its entries, in order
abbrev pub call_entries : Request → Came → List Entry
call_entries request c = c.of_clock ++ (c.of_confs ++ run_entries request.settings.debug request.settings.state c.clock c.rules
    c.work)

-- those before it reads its state and looks
abbrev pub front_entries : Request → Came → List Entry
front_entries request c = c.of_clock ++ (c.of_confs ++ first_entries request.settings.debug request.settings.state c.clock c.rules
    c.work)

-- what the request asks for of a plan
abbrev pub asked_in : Request → Asked
asked_in request = asking request.settings.force request.settings.mailer

-- ---- a call that came to its plan

-- Behind its clock: the configuration was read, and means this; what was seen is as the entries show, and the plan is the one that
-- follows.
pub record ShowsConfs (request : Request) (c : Came) : Type 0 where
  pub rules : c.rules.sets ≡ c.meaning.rules
  pub read : Reads request.confs c.meaning c.of_confs
  pub work : ShowsWork request.settings.debug request.settings.state c.rules.sets c.clock (asked_in request) c.work

-- The clock is that of the zone at these seconds, and the rest is so.
pub record ShowsCame (request : Request) (zone : Zone) (seconds : ℤ) (c : Came) : Type 0 where
  pub clock : ShowsClock zone seconds c.clock c.of_clock
  pub confs : ShowsConfs request c

-- The plan is the one that is printed; the report has the notices of the configuration, and the faults of the configuration, of
-- what was seen, of the plan, and of the acts.
pub record Tells (c : Came) (printed : Option Plan) (report : Report) : Type 0 where
  pub plan : printed ≡ Some c.work.plan
  pub notices : report.notices ≡ c.meaning.notices
  pub faults : report.faults ≡ c.meaning.faults ++ (c.work.saw.faults ++ (c.work.plan.faults ++ act_faults c.work.acts))

-- A dry call did nothing; another carried its plan out, whatever failed; or it broke off, where there was no memory for a program.
abbrev pub PlanEnds : Bool → Request → Came → Option Plan → Outcome → Type 0
PlanEnds true request c plan (Done report) = Tells c plan report × DidNothing c.work
PlanEnds false request c plan (Done report) = Tells c plan report × CarriesOut request.settings.state c.clock c.work
PlanEnds false request c plan OutOfMemory = (plan ≡ None) × BreaksOff c.work
PlanEnds debug request c plan _ = ⊥

-- ---- a call that ended before its plan

-- the answer of one whose run halted, behind a configuration that means this
abbrev pub answer_by : Meaning → Halt → Outcome
answer_by meaning (OfFaults own) = Done (record { notices = meaning.notices; faults = meaning.faults ++ own })
answer_by meaning OfLock = Held
answer_by meaning OfMemory = OutOfMemory

-- Behind its clock: there was no memory for the configuration; or it was read, and the run over its rules halted.
pub data ConfsHalt (request : Request) (clock : Clock) (outcome : Outcome) (ts : List Entry) : Type 0 where
  no_reading : outcome ≡ OutOfMemory → LacksReading request.confs ts → ConfsHalt request clock outcome ts
  no_plan : (meaning : Meaning) (rules : Rules) (halt : Halt) → rules.sets ≡ meaning.rules → outcome ≡ answer_by meaning halt
      → Then (Reads request.confs meaning) (Halts request.settings.debug request.settings.state rules clock (asked_in request) halt)
      ts → ConfsHalt request clock outcome ts

-- There was no clock, and its fault is told alone; or no memory for the zone; or there was a clock, and behind it the call halted.
pub data CallHalts (request : Request) (zone : Zone) (seconds : ℤ) (outcome : Outcome) (ts : List Entry) : Type 0 where
  no_clock : (f : Fault) → outcome ≡ Done (record { notices = []; faults = f ∷ [] }) → LacksClock zone seconds f ts
      → CallHalts request zone seconds outcome ts
  no_zone : outcome ≡ OutOfMemory → LacksZoneMemory zone ts → CallHalts request zone seconds outcome ts
  behind_clock : (clock : Clock) → Then (ShowsClock zone seconds clock) (ConfsHalt request clock outcome) ts
      → CallHalts request zone seconds outcome ts

-- ---- both

-- A call that was to run by this request left these entries: it halted before a plan; or it came to one, and this is what it came
-- to.
pub data CallEnds (request : Request) (zone : Zone) (seconds : ℤ) (plan : Option Plan) (outcome : Outcome) (came : Option Came)
    (ts : List Entry) : Type 0 where
  halted : came ≡ None → plan ≡ None → CallHalts request zone seconds outcome ts
      → CallEnds request zone seconds plan outcome came ts
  called : (c : Came) → came ≡ Some c → ShowsCame request zone seconds c → PlanEnds request.settings.debug request c plan outcome
      → ts ≡ call_entries request c → CallEnds request zone seconds plan outcome came ts

-- So did a call with these words, from the directory `here` on; and nothing where they ask for nothing, or there was no memory for
-- what they ask for.
pub data CallShows (here : Path) (words : List (List ℕ)) (zone : Zone) (seconds : ℤ) (plan : Option Plan) (outcome : Outcome)
    (came : Option Came) (ts : List Entry) : Type 0 where
  not_read : came ≡ None → plan ≡ None → (outcome ≡ BadWords) ⊎ (outcome ≡ OutOfMemory) → ts ≡ []
      → CallShows here words zone seconds plan outcome came ts
  read : (request : Request) → AskFor here words request → CallEnds request zone seconds plan outcome came ts
      → CallShows here words zone seconds plan outcome came ts
