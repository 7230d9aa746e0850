-- Which entries are acts, and what steps that were made leave of these.
use Rattle.std.specs.Prelude.{◌≡◌, pos, Bool, true, false, List, [], ◌∷◌}
use Rattle.lr_rules.specs.declared.fault.Ended.TheVariants as ended
use Rattle.lr_host.specs.declared.entry.Entry.{Entry}
use Rattle.lr_host.specs.declared.entry.Entry.TheVariants as entry
use Rattle.lr_host.specs.Told.{Then, Maybe}
use Rattle.lr_scripts.specs.Programs.{runs}
use Rattle.lr_plan.specs.declared.step.Step.{Step}
use Rattle.lr_plan.specs.declared.step.Step.TheVariants.{Runs, Removes, MakesDir, Renames, Creates, Takes, SyncsFile, SyncsDir}
use Rattle.lr_plan.specs.declared.step.Step.TheVariants.{Truncates}
use Rattle.lr_plan.specs.Outcomes.{One}

-- an entry by which the tool changes a name, truncates, syncs, or runs a program: all that it does to a disk but appends
abbrev pub is_act : Entry → Bool
is_act (entry.Renames from to) = true
is_act (entry.Makes x mode) = true
is_act (entry.Truncates x) = true
is_act (entry.Unlinks x) = true
is_act (entry.MakesDir x mode) = true
is_act (entry.SyncsFile x) = true
is_act (entry.SyncsDir x) = true
is_act (entry.Runs program args input end) = true
is_act _ = false

-- The acts of a step that was made: its one, a program's with the end 0; the making of a log or of a directory may have none, where
-- the path is named. A copy of bytes, an append and a mark have none.
abbrev pub StepActs : Step → List Entry → Type 0
StepActs (Runs phase on command) ts = One (runs command (ended.Exit (pos 0))) ts
StepActs (Removes path) ts = One (entry.Unlinks path) ts
StepActs (MakesDir path mode) ts = Maybe (entry.MakesDir path mode) ts
StepActs (Renames from to) ts = One (entry.Renames from to) ts
StepActs (Creates path mode) ts = Maybe (entry.Makes path mode) ts
StepActs (Takes path mode) ts = One (entry.Makes path mode) ts
StepActs (SyncsFile path) ts = One (entry.SyncsFile path) ts
StepActs (SyncsDir path) ts = One (entry.SyncsDir path) ts
StepActs (Truncates path) ts = One (entry.Truncates path) ts
StepActs _ ts = ts ≡ []

-- these are the acts of the steps, each of which was made, in order
abbrev pub AreActsOf : List Step → List Entry → Type 0
AreActsOf [] ts = ts ≡ []
AreActsOf (step ∷ steps) ts = Then (StepActs step) (AreActsOf steps) ts
