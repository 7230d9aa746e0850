-- What steps ask for: each of their calls fits, wherever those before it left the disk.
use Rattle.std.specs.Prelude.{List, [], ◌∷◌, pos, Option}
use Rattle.lr_rules.specs.declared.fault.Ended.TheVariants as ended
use Rattle.lr_rules.specs.declared.fault.Fault.{Fault}
use Rattle.lr_host.specs.declared.entry.Entry.{Entry}
use Rattle.lr_host.specs.declared.entry.Entry.TheVariants as entry
use Rattle.lr_host.specs.declared.journal.Journal.{Journal}
use Rattle.lr_host.specs.Told.{Left}
use Rattle.lr_host.specs.Steps.{CanAll}
use Rattle.lr_scripts.specs.Programs.{runs}
use Rattle.lr_plan.specs.declared.mark.Mark.{Mark}
use Rattle.lr_plan.specs.declared.step.SetSteps.{SetSteps}
use Rattle.lr_plan.specs.declared.step.Step.{Step}
use Rattle.lr_plan.specs.declared.step.Step.TheVariants.{Runs, Removes, MakesDir, Renames, Creates, Takes, Copies, Appends}
use Rattle.lr_plan.specs.declared.step.Step.TheVariants.{SyncsFile, SyncsDir, Truncates, Rotated}
use Rattle.lr_plan.specs.Outcomes.{Succeeds}
use Rattle.lr_plan.specs.Course.{Part, Course}
use Rattle.lr_plan.specs.Done.{EachDone, SetDone}

-- the calls of a step, as they are asked for; what a call will see, give or take makes no difference
abbrev pub asks : Step → List Entry
asks (Runs phase on command) = runs command (ended.Exit (pos 0)) ∷ []
asks (Removes path) = entry.Unlinks path ∷ []
asks (MakesDir path mode) = entry.MakesDir path mode ∷ []
asks (Renames from to) = entry.Renames from to ∷ []
asks (Creates path mode) = entry.Makes path mode ∷ []
asks (Takes path mode) = entry.Makes path mode ∷ []
asks (Copies from to limit) = entry.Reads from 0 [] ∷ entry.Appends to [] ∷ []
asks (Appends path text) = entry.Appends path [] ∷ []
asks (SyncsFile path) = entry.SyncsFile path ∷ []
asks (SyncsDir path) = entry.SyncsDir path ∷ []
asks (Truncates path) = entry.Truncates path ∷ []
asks (Rotated log) = []

-- Each step fits where those before it were made.
abbrev pub CanMake : Option Journal → List Step → Type 0
CanMake told [] = Unit {0}
CanMake told (step ∷ steps) = CanAll told (asks step) × ((now : Option Journal) → Left (Succeeds step) told now → CanMake now steps)

-- a part of the acts leaves the journal so
abbrev pub LeadsTo : Part → Option Journal → Option Journal → Type 0
LeadsTo P told now = (marks : List Mark) × (faults : List Fault) × Left (P marks faults) told now

-- Each log's steps fit, wherever those of the logs before it ended.
abbrev pub CanEach : Option Journal → List (List Step) → Type 0
CanEach told [] = Unit {0}
CanEach told (steps ∷ each) = CanMake told steps × ((now : Option Journal) → LeadsTo (Course steps) told now → CanEach now each)

pub record CanSet (told : Option Journal) (set : SetSteps) : Type 0 where
  pub first : CanMake told set.first
  pub each : (now : Option Journal) → LeadsTo (Course set.first) told now → CanEach now set.each
  pub last : (now later : Option Journal) → LeadsTo (Course set.first) told now → LeadsTo (EachDone set.each) now later
      → CanMake later set.last

abbrev pub CanSets : Option Journal → List SetSteps → Type 0
CanSets told [] = Unit {0}
CanSets told (set ∷ sets) = CanSet told set × ((now : Option Journal) → LeadsTo (SetDone set) told now → CanSets now sets)
