-- What a call makes of the disk, by what it came to.
use Rattle.std.specs.Prelude.{◌≡◌, ◌≤◌, ◌+◌, ℕ, Bool, List, [], ◌++◌, Option, Some, None, true, false}
use Rattle.lr_rules.specs.declared.path.Path.{Path}
use Rattle.lr_host.specs.declared.journal.Journal.{Journal}
use Rattle.lr_host.specs.Told.{Counts}
use Rattle.lr_host.specs.World.{past}
use Rattle.lr_copy.specs.declared.job.Job.{Job}
use Rattle.lr_laws_acts.specs.Jobs.{jobs_of}
use Rattle.lr_glob.specs.Listings.{listings_of}
use Rattle.lr_laws_looks.specs.Planned.{targets_in}
use Rattle.lr_plan.specs.Done.{rotated_logs}
use Rattle.lr_run.specs.Copied.{IsCopyBy}
use Rattle.lr_run.specs.Logs.{AreGivenBy}
use Rattle.lr_run.specs.Met.{MetNothing}
use Rattle.lr_run.specs.Ran.{TellsNamesOf}
use Rattle.lr_run.specs.Rotated.{TurnLogs}
use Rattle.lr_run.specs.Paths.{dirs_in}
use Rattle.lr_run.specs.Saw.{text_by}
use Rattle.lr_run.specs.Scripts.{RunNothing}
use Rattle.lr_run.specs.Work.{act_faults}
use Rattle.lr_laws_plan.specs.Ending.{NoneEnds}
use Rattle.lr_laws_plan.specs.Looked.{behind_start, SawState}
use Rattle.lr_laws_plan.specs.Tried.{NoneEndsTry}
use Rattle.lr_laws_plan.specs.Fulfilled.{IsFulfilled, NothingFailed}
use Rattle.lr_laws_plan.specs.Listings.{wildcards_of}
use Rattle.lr_laws_plan.specs.Rest.{ChangesOnly, LeavesRest, LeavesSets}
use Rattle.lr_laws_plan.specs.Truth.{WereTrue}
use Rattle.lr_laws_plan.specs.Smooth.{IsSmooth, NoneRose}
use Rattle.lr_command.specs.declared.request.Request.{Request}
use Rattle.lr_report.specs.declared.outcome.Outcome.{Outcome}
use Rattle.lr_report.specs.declared.outcome.Outcome.TheVariants.{Done, OutOfMemory}
use Rattle.lr_report.specs.declared.outcome.Report.{Report}
use Rattle.lr_cli.specs.Called.{Came, call_entries, front_entries}

-- What a call saw, a dry one or another, that came to its plan.
pub record SawTruly (request : Request) (c : Came) (before after : Journal) : Type 0 where
  -- its looks were true of the disk: they hold all that stood as it began to look, and nothing else but what came meanwhile
  pub looks : WereTrue c.rules.sets c.work.saw.words c.work.saw.sets (front_entries request c) (c.work.reads ++ c.work.looks)
      (past before) (past after)
  -- no directory was listed more often than there are wildcards among the words of the rules, and once more
  pub listed : (dir : Path) → listings_of dir c.work.looks ≤ wildcards_of c.rules.sets + 1

-- What a call, not a dry one, that came to its plan and answers this report, made of the disk, and how its report tells of that.
pub record Makes (request : Request) (c : Came) (report : Report) (counted counts : Counts) (before after : Journal) : Type 0 where
  -- where no step of the logs failed, the family of each log of the plan was turned, by its rename or by its copy, file by file
  pub turned : c.work.acts.of_logs ≡ [] → TurnLogs request.settings.state c.work.plan (past before) (past after)
  -- where none of the state failed either, it did its plan: its acts are those of the plan, in order, each log that is made anew is
  -- named, and the state tells of each log
  pub fulfilled : act_faults c.work.acts ≡ [] → IsFulfilled request.settings.state c.clock c.work (call_entries request c)
      (past before) (past after)
  -- none failed where no count of failures rose, and nothing was in the way of its copies and of the directories that it makes
  pub smooth : NoneRose counted counts → IsSmooth request.settings.state (jobs_of c.work.plan.sets) (dirs_in c.work.plan)
      (past before) (past after) → act_faults c.work.acts ≡ []
  -- so where besides the configuration, the looks and the plan show no fault, the report has none
  pub complete : act_faults c.work.acts ≡ [] → c.meaning.faults ≡ [] → c.work.saw.faults ≡ [] → c.work.plan.faults ≡ []
      → report.faults ≡ []
  -- the report tells whether a step of the logs failed, and whether anything did: none did where no fault is of a call that failed,
  -- of a program that ended badly, of a copy that broke off, or of what stood where a directory was to be made; nor where besides
  -- none tells that the path was named of the file to which a new state is first written
  pub told_of_logs : MetNothing (dirs_in c.work.plan) report.faults → c.work.acts.of_logs ≡ []
  pub told_of_all : NothingFailed request.settings.state (dirs_in c.work.plan) report.faults → act_faults c.work.acts ≡ []
  -- what no entry tells: each log that a step made anew is named, whatever failed behind it; and so was each path that is told as
  -- taken
  pub names : TellsNamesOf request.settings.state c.clock c.work (Some before) (Some after)
  -- by its report and by its entries too it came to its plan
  pub reached : NoneEnds request.settings.state report.faults
      × SawState request.settings.state (behind_start (call_entries request c))

-- What is so of a call that came to its plan with this outcome.
pub record IsCalled (request : Request) (c : Came) (outcome : Outcome) (counted counts : Counts)
    (before after : Journal) : Type 0 where
  pub saw : SawTruly request c before after
  -- a word of one of its rules gives each log of its plan, and the rule says how it is rotated
  pub given : AreGivenBy c.rules.sets c.work.plan
  -- one that isn't dry changed paths of these logs and of the state alone, and left all else alone, whatever failed, and however
  -- far it came: each other path, and each set of another log
  pub only : request.settings.debug ≡ false → ChangesOnly request.settings.state (targets_in c.work.plan) c.work.did
  pub rest : request.settings.debug ≡ false → LeavesRest request.settings.state c.work.saw.kept (targets_in c.work.plan)
      (past before) (past after)
  pub sets : request.settings.debug ≡ false → LeavesSets (targets_in c.work.plan) (past before) (past after)
  pub made : (report : Report) → request.settings.debug ≡ false → outcome ≡ Done report
      → Makes request c report counted counts before after
  -- a dry one tells of nothing that ends one before its plan
  pub tried : (report : Report) → request.settings.debug ≡ true → outcome ≡ Done report
      → NoneEndsTry request.settings.state report.faults
  -- one ran out of memory behind its plan only where a rule has a script or mails
  pub short : outcome ≡ OutOfMemory → RunNothing c.rules.sets → ⊥

-- ---- at each moment of a call

-- The text is the new one of the state, by what a call, dry or not, came to and answers: that which it read, brought up to its
-- clock by the logs that its acts rotated. One that is dry or has no report writes none.
abbrev pub IsTextOf : Bool → Outcome → Option Came → List ℕ → Type 0
IsTextOf false (Done report) (Some c) text = text ≡ text_by c.work.saw c.clock (rotated_logs c.work.acts.marks)
IsTextOf debug outcome came text = ⊥

-- One of the rules that it read asks for the copy, and the clock gives its name.
abbrev pub IsCopyIn : Option Came → Job → Type 0
IsCopyIn None job = ⊥
IsCopyIn (Some c) job = IsCopyBy c.rules.sets c.clock job
