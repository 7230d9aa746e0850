-- A path that a new file needs, and what had it. A make that finds its path named leaves no entry, so the entries alone don't tell
-- it.
use Rattle.std.specs.Prelude.{◌≡◌, ◌≢◌, ◌⊎◌, List, [], ◌∷◌, Option, Some, None}
use Rattle.lr_rules.specs.declared.path.Path.{Path}
use Rattle.lr_rules.specs.declared.fault.Fault.{Fault}
use Rattle.lr_rules.specs.declared.fault.Fault.TheVariants as fault
use Rattle.lr_host.specs.declared.thing.Thing.TheVariants as thing
use Rattle.lr_host.specs.declared.entry.Entry.{Entry}
use Rattle.lr_host.specs.declared.entry.Entry.TheVariants.{Unlinks}
use Rattle.lr_host.specs.declared.journal.Journal.{Journal}
use Rattle.lr_host.specs.Lists.{IsIn}
use Rattle.lr_host.specs.World.{Past, past, world, names}
use Rattle.lr_host.specs.Told.{Each, Made, Left}
use Rattle.lr_plan.specs.declared.step.Step.{Step}
use Rattle.lr_plan.specs.declared.step.Step.TheVariants.{Removes, Takes}
use Rattle.lr_acts.specs.Named.{WasNamed}

-- the entry doesn't unlink this path
abbrev pub SparesPath : Path → Entry → Type 0
SparesPath path (Unlinks gone) = gone ≡ path → ⊥
SparesPath path _ = Unit {0}

-- something had the path at a moment between, from which on the tool unlinked it no more
pub data WasTaken (path : Path) : Option Journal → Option Journal → Type 0 where
  no_journal : WasTaken path None None
  at_last : {j k : Journal} {es fs : List Entry} (p : Past) → Made (past j) es p → names (world p) path ≢ thing.Nothing
      → Made p fs (past k) → Each (SparesPath path) fs → WasTaken path (Some j) (Some k)

-- the step makes a new file at this path; one of the steps does
abbrev pub TakesAt : Path → Step → Type 0
TakesAt path (Takes new mode) = new ≡ path
TakesAt path _ = ⊥

abbrev pub OneTakes : Path → List Step → Type 0
OneTakes path [] = ⊥
OneTakes path (step ∷ steps) = TakesAt path step ⊎ OneTakes path steps

-- the step unlinks this path; none of the steps does
abbrev pub RemovesAt : Path → Step → Type 0
RemovesAt path (Removes gone) = gone ≡ path
RemovesAt path _ = ⊥

abbrev pub NoneRemoves : Path → List Step → Type 0
NoneRemoves path [] = Unit {0}
NoneRemoves path (step ∷ steps) = (RemovesAt path step → ⊥) × NoneRemoves path steps

-- behind each step that makes a new file at this path, none unlinks it
abbrev pub LastTaken : Path → List Step → Type 0
LastTaken path [] = Unit {0}
LastTaken path (step ∷ steps) = (TakesAt path step → NoneRemoves path steps) × LastTaken path steps

-- Of acts by these steps, with these faults: each path that is told as taken was named at a moment, and where no step behind the
-- one that needs it unlinks it, at one from which on the tool unlinked it no more.
pub record TakenOnly (steps : List Step) (faults : List Fault) (told later : Option Journal) : Type 0 where
  pub taken : (path : Path) → LastTaken path steps → IsIn (fault.Taken path) faults → WasTaken path told later
  pub named : (path : Path) → IsIn (fault.Taken path) faults → WasNamed path told later
  -- one of the steps needs it
  pub planned : (path : Path) → IsIn (fault.Taken path) faults → Left (λ ts. OneTakes path steps) told later
  -- what none of the steps unlinks, the tool doesn't
  pub spared : (path : Path) → NoneRemoves path steps → Left (Each (SparesPath path)) told later
