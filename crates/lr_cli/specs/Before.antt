-- What a call leaves that ended before its plan, and by which faults it says so.
use Rattle.std.specs.Prelude.{◌≡◌, ◌⊎◌, ℕ, List, [], ◌∷◌, ◌++◌, true, false}
use Rattle.lr_rules.specs.declared.fault.CallKind.TheVariants as call
use Rattle.lr_rules.specs.declared.fault.Fault.{Fault}
use Rattle.lr_rules.specs.declared.fault.Fault.TheVariants as fault
use Rattle.lr_rules.specs.declared.path.Path.{Path}
use Rattle.lr_host.specs.declared.entry.Entry.{Entry}
use Rattle.lr_host.specs.declared.entry.Entry.TheVariants as entry
use Rattle.lr_host.specs.Told.{Each}
use Rattle.lr_due.specs.declared.tz.Zone.{Zone}
use Rattle.lr_due.specs.declared.tz.Zone.TheVariants.{File}
use Rattle.lr_laws_plan.specs.Ending.{EndsRun, NoneEnds, MayEnd}
use Rattle.lr_laws_plan.specs.Looked.{behind_start, SawState}
use Rattle.lr_laws_plan.specs.Tried.{EndsTry, MayEndTry}
use Rattle.lr_command.specs.declared.request.Request.{Request}
use Rattle.lr_report.specs.declared.outcome.Outcome.{Outcome}
use Rattle.lr_report.specs.declared.outcome.Outcome.TheVariants.{Done}
use Rattle.lr_report.specs.declared.outcome.Report.{Report}
use Rattle.lr_cli.specs.Asked.{AskFor}

-- ---- what it leaves

-- a look, a listing or a read, or the begin or the end of a run: it leaves the disk as it is, and starts no program
abbrev pub IsStill : Entry → Type 0
IsStill (entry.Look path seen) = Unit {0}
IsStill (entry.List dir names) = Unit {0}
IsStill (entry.Reads path from piece) = Unit {0}
IsStill (entry.Starts state now rules) = Unit {0}
IsStill entry.Ends = Unit {0}
IsStill _ = ⊥

abbrev pub AreStill : List Entry → Type 0
AreStill ts = Each IsStill ts

-- ---- which fault says why

-- a look at the zone's file failed, or a read of it
abbrev pub IsOfZone : Zone → Fault → Type 0
IsOfZone (File path) f = (f ≡ fault.Call call.Look path) ⊎ (f ≡ fault.Call call.Read path)
IsOfZone _ f = ⊥

-- A look or a read failed of the zone's file or of a path of the state. Made for the zone or the state, it ended the call; made for
-- a configuration or a log there, it ended nothing.
abbrev pub MayEndCall : Path → Zone → Fault → Type 0
MayEndCall state zone f = IsOfZone zone f ⊎ MayEnd state f

-- The last of the faults is why the call ended before its plan.
pub record SaysWhy (state : Path) (zone : Zone) (faults : List Fault) : Type 0 where
  pub before : List Fault
  pub last : Fault
  pub faults_are : faults ≡ before ++ last ∷ []
  pub ends : EndsRun state last ⊎ MayEndCall state zone last

-- A look or a read failed of the zone's file or of a path of the state, or the state's directory isn't there. Each may be told of a
-- configuration or a log too, and then ended nothing.
abbrev pub MayEndDry : Path → Zone → Fault → Type 0
MayEndDry state zone f = IsOfZone zone f ⊎ MayEndTry state f

-- The last of the faults is why a dry call ended before its plan.
pub record SaysWhyDry (state : Path) (zone : Zone) (faults : List Fault) : Type 0 where
  pub before : List Fault
  pub last : Fault
  pub faults_are : faults ≡ before ++ last ∷ []
  pub ends : EndsTry state last ⊎ MayEndDry state zone last

-- ---- both

-- A call with these words, in this zone, ended before its plan with this answer, its `Out` left aside, and left these entries.
pub record EndsBefore (here : Path) (words : List (List ℕ)) (zone : Zone) (outcome : Outcome) (ts : List Entry) : Type 0 where
  -- it changed nothing, and started no program
  pub still : AreStill ts
  -- its report says why, by its last fault
  pub why : (request : Request) → AskFor here words request → request.settings.debug ≡ false → (report : Report)
      → outcome ≡ Done report → SaysWhy request.settings.state zone report.faults
  pub dry_why : (request : Request) → AskFor here words request → request.settings.debug ≡ true → (report : Report)
      → outcome ≡ Done report → SaysWhyDry request.settings.state zone report.faults
  -- where none of its faults ends a run, the entries tell that it didn't see its state
  pub unseen : (request : Request) → AskFor here words request → request.settings.debug ≡ false → (report : Report)
      → outcome ≡ Done report → NoneEnds request.settings.state report.faults → SawState request.settings.state (behind_start ts)
      → ⊥
