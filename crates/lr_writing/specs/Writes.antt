-- What steps of the writing come to.
use Rattle.std.specs.Prelude.{◌≡◌, ◌≤◌, ℕ, List, [], ◌∷◌, ◌++◌, length, Bool, Option, Some, Result, Ok, Err}
use Rattle.lr_rules.specs.declared.path.Path.{Path}
use Rattle.lr_rules.specs.declared.fault.Fault.{Fault}
use Rattle.lr_rules.specs.declared.fault.Fault.TheVariants as fault
use Rattle.lr_host.specs.declared.entry.Entry.{Entry}
use Rattle.lr_host.specs.declared.entry.Entry.TheVariants as entry
use Rattle.lr_host.specs.declared.journal.Journal.{Journal}
use Rattle.lr_host.specs.Told.{Left, Each, Counts, Onward}
use Rattle.lr_plan.specs.declared.step.Step.{Step}
use Rattle.lr_plan.specs.declared.step.Step.TheVariants.{Removes, Renames, Takes, Appends, SyncsFile, SyncsDir}
use Rattle.lr_plan.specs.Steps.{step_if}
use Rattle.lr_host.specs.Counted.{AreCounted}
use Rattle.lr_plan.specs.Course.{Course}
use Rattle.lr_plan.specs.Asking.{CanMake}
use Rattle.lr_acts.specs.Making.{FaultCause}
use Rattle.lr_acts.specs.Taken.{TakenOnly}
use Rattle.lr_writing.specs.declared.refused.Refused.{Refused}
use Rattle.lr_writing.specs.declared.refused.Refused.TheVariants as refused

-- an append has at most 65,536 bytes
abbrev pub IsShort : Entry → Type 0
IsShort (entry.Appends path piece) = length piece ≤ 65_536
IsShort _ = Unit {0}

-- These steps left the entries, all of them or those up to one that failed, with these faults; no append is longer than the buffer.
abbrev pub Writes : List Step → List Fault → List Entry → Type 0
Writes steps faults ts = Course steps [] faults ts × Each IsShort ts

-- each of the faults has its cause
abbrev pub AreCaused : List Fault → Counts → Counts → Option Journal → Option Journal → Type 0
AreCaused [] before now told later = Unit {0}
AreCaused (f ∷ fs) before now told later = FaultCause f before now told later × AreCaused fs before now told later

-- The steps were made, up to one that failed; each fault has its cause, and where none failed what is to follow fits.
pub record ComesTo (steps : List Step) (faults : List Fault) (told later : Option Journal) (counted counts : Counts) : Type 0 where
  pub entries : Left (Writes steps faults) told later
  pub caused : AreCaused faults counted counts told later
  pub taken : TakenOnly steps faults told later
  pub onward : Onward counted counts
  pub next : faults ≡ [] → (rest : List Step) → CanMake told (steps ++ rest) → CanMake later rest

-- The steps were made, up to one that failed; its fault was added, with its cause: the counts tell of a failed call, and a path
-- that is told as taken was named.
pub record AddsCourse (steps : List Step) (before now : List Fault) (told later : Option Journal)
    (counted counts : Counts) : Type 0 where
  pub added : List Fault
  pub now_is : now ≡ before ++ added
  pub entries : Left (Writes steps added) told later
  pub are_counted : AreCounted added counted counts
  pub taken : TakenOnly steps added told later
  pub onward : Onward counted counts

-- ---- faults by answers

abbrev pub faults_in : Result (Unit {0}) Fault → List Fault
faults_in (Ok done) = []
faults_in (Err f) = f ∷ []

abbrev pub refusal_fault : Path → Refused → Fault
refusal_fault path (refused.Call kind) = fault.Call kind path
refusal_fault path refused.Taken = fault.Taken path

abbrev pub refusal : Path → Result (Unit {0}) Refused → List Fault
refusal path (Ok done) = []
refusal path (Err why) = refusal_fault path why ∷ []

-- ---- the parts of the writing

-- the part file has the whole text, durably
abbrev pub part_steps : Path → Bool → List ℕ → List Step
part_steps part stale text = step_if stale (Removes part) ++ (Takes part (Some 416) ∷ Appends part text ∷ SyncsFile part ∷ [])

-- and it gets the state's path
abbrev pub name_steps : Path → Path → Path → List Step
name_steps part state dir = Renames part state ∷ SyncsDir dir ∷ []
