-- What a call came to, as a value, and what its entries and its answer show of it: it came to its log's files, or it ended before
-- them.
use Rattle.std.specs.Prelude.{◌≡◌, ◌<◌, ℕ, ℤ, Bool, false, List, [], ◌∷◌, ◌++◌, Option, Some, None, Result, Ok, Err}
use Rattle.lr_rules.specs.declared.clock.Clock.{Clock}
use Rattle.lr_rules.specs.declared.fault.Fault.{Fault}
use Rattle.lr_rules.specs.declared.fault.Fault.TheVariants as fault
use Rattle.lr_rules.specs.declared.path.Path.{Path}
use Rattle.lr_rules.specs.declared.rule.Naming.{Naming}
use Rattle.lr_rules.specs.declared.rule.Rule.{Rule}
use Rattle.lr_rules.specs.declared.rules.Rules.{Rules}
use Rattle.lr_rules.specs.Names.{naming_of}
use Rattle.lr_host.specs.declared.entry.Entry.{Entry}
use Rattle.lr_host.specs.Counted.{calls_in}
use Rattle.lr_host.specs.Told.{Then}
use Rattle.lr_due.specs.declared.zone.ZoneText.TheVariants as zone
use Rattle.lr_due.specs.Zone.{IsInRange, IsClockIn}
use Rattle.lr_conf.specs.Meaning.{Meaning}
use Rattle.lr_include.specs.Lacking.{LacksReading}
use Rattle.lr_include.specs.Stages.{Reads}
use Rattle.lr_laws_family.specs.Members.{IsFamily}
use Rattle.lr_report.specs.declared.outcome.Report.{Report}
use Rattle.lr_cat.specs.declared.outcome.CatOutcome.{CatOutcome}
use Rattle.lr_cat.specs.declared.outcome.CatOutcome.TheVariants.{Done, BadWords, NoLog, Held, OutOfMemory}
use Rattle.lr_cat.specs.declared.words.Wanted.{Wanted}
use Rattle.lr_cat.specs.Cats.{Cats, LockIsHeld, CatIsShort}
use Rattle.lr_cat.specs.First.{GivesNone, IsFirst}
use Rattle.lr_cat.specs.Texts.{FileText}
use Rattle.lr_cat.specs.Words.{wanted}

-- ---- the value

-- What a call came to whose log a definition gives: its clock, what its configuration means and the rules of that, how the members
-- of the log are named, how it ended (by a fault of its own; or with all read, and then whether the log waits that is set aside),
-- and the files that it read, in order, each with the text read of it.
pub record Came : Type 0 where
  pub clock : Clock
  pub meaning : Meaning
  pub rules : Rules
  pub naming : Naming
  pub how : Result Bool Fault
  pub texts : List FileText

-- the faults, and the call's own behind them, where there is one
abbrev pub with_own : List Fault → Option Fault → List Fault
with_own faults None = faults
with_own faults (Some f) = faults ++ f ∷ []

-- the notices of the configuration, its faults, and the call's own
abbrev pub report_by : Meaning → Option Fault → Report
report_by m own = record { notices = m.notices; faults = with_own m.faults own }

-- the answer of a call that ended so, and the fault of its own, if one ended it
abbrev pub done_by : Meaning → Result Bool Fault → CatOutcome
done_by m (Ok waits) = Done (report_by m None) waits
done_by m (Err f) = Done (report_by m (Some f)) false

abbrev pub own_of : Result Bool Fault → Option Fault
own_of (Ok waits) = None
own_of (Err f) = Some f

-- the report of a call without a clock
abbrev pub clock_fault : Report
clock_fault = record { notices = []; faults = fault.Clock ∷ [] }

-- ---- behind the definition that gives the log

-- Another run has the lock; or there was no memory; or the call came to its files, whatever ended it then, and answers by that.
pub data LogEnds (w : Wanted) (clock : Clock) (m : Meaning) (rules : Rules) (n : Naming) (outcome : CatOutcome) (came : Option Came)
    (ts : List Entry) : Type 0 where
  held : outcome ≡ Held → came ≡ None → LockIsHeld w ts → LogEnds w clock m rules n outcome came ts
  short : outcome ≡ OutOfMemory → came ≡ None → CatIsShort w clock rules ts → LogEnds w clock m rules n outcome came ts
  called : (how : Result Bool Fault) (texts : List FileText) → outcome ≡ done_by m how
      → came ≡ Some (record { clock = clock; meaning = m; rules = rules; naming = n; how = how; texts = texts })
      → Cats w clock rules n how texts ts → LogEnds w clock m rules n outcome came ts

-- ---- behind the configuration

-- No rule gives the log; or there was no memory; or this rule is the first that gives it, and says how its members are named, which
-- are a family.
pub data RulesEnd (w : Wanted) (clock : Clock) (m : Meaning) (rules : Rules) (outcome : CatOutcome) (came : Option Came)
    (ts : List Entry) : Type 0 where
  no_log : outcome ≡ NoLog → came ≡ None → GivesNone rules.sets w.log → ts ≡ [] → RulesEnd w clock m rules outcome came ts
  lacks : outcome ≡ OutOfMemory → came ≡ None → ts ≡ [] → RulesEnd w clock m rules outcome came ts
  given : (rule : Rule) → IsFirst rules.sets w.log rule → IsFamily w.log (naming_of rule w.log)
      → LogEnds w clock m rules (naming_of rule w.log) outcome came ts → RulesEnd w clock m rules outcome came ts

-- ---- behind the clock

-- There was no memory for the configuration; or a call failed as it was read, and the report says so; or none did, and it means
-- this.
pub data ConfsEnd (w : Wanted) (clock : Clock) (outcome : CatOutcome) (came : Option Came) (ts : List Entry) : Type 0 where
  not_read : outcome ≡ OutOfMemory → came ≡ None → LacksReading w.confs ts → ConfsEnd w clock outcome came ts
  broke_off : (m : Meaning) → outcome ≡ Done (report_by m None) false → came ≡ None → 0 < calls_in m.faults → Reads w.confs m ts
      → ConfsEnd w clock outcome came ts
  read : (m : Meaning) (rules : Rules) → rules.sets ≡ m.rules → calls_in m.faults ≡ 0
      → Then (Reads w.confs m) (RulesEnd w clock m rules outcome came) ts → ConfsEnd w clock outcome came ts

-- ---- the call

-- The seconds are out of range; or there was no memory; or this is the clock of UTC, and behind it the call ended.
pub data CatEnds (w : Wanted) (seconds : ℤ) (outcome : CatOutcome) (came : Option Came) (ts : List Entry) : Type 0 where
  no_clock : outcome ≡ Done clock_fault false → came ≡ None → ¬ (IsInRange seconds) → ts ≡ [] → CatEnds w seconds outcome came ts
  no_memory : outcome ≡ OutOfMemory → came ≡ None → ts ≡ [] → CatEnds w seconds outcome came ts
  behind_clock : (clock : Clock) → IsInRange seconds → IsClockIn zone.Utc seconds clock → ConfsEnd w clock outcome came ts
      → CatEnds w seconds outcome came ts

-- The words want nothing; or there was no memory for what they want; or they want this.
pub data CatShows (here : Path) (words : List (List ℕ)) (seconds : ℤ) (outcome : CatOutcome) (came : Option Came)
    (ts : List Entry) : Type 0 where
  bad_words : outcome ≡ BadWords → came ≡ None → wanted here words ≡ None → ts ≡ [] → CatShows here words seconds outcome came ts
  no_words : outcome ≡ OutOfMemory → came ≡ None → ts ≡ [] → CatShows here words seconds outcome came ts
  wants : (w : Wanted) → wanted here words ≡ Some w → CatEnds w seconds outcome came ts
      → CatShows here words seconds outcome came ts
