-- Which paths are named behind steps. A make that finds its path named leaves no entry, so the entries alone don't tell it.
use Rattle.std.specs.Prelude.{◌≡◌, ◌≢◌, ◌⊎◌, List, [], ◌∷◌, Option, Some, None}
use Rattle.lr_rules.specs.declared.path.Path.{Path}
use Rattle.lr_host.specs.declared.thing.Thing.TheVariants as thing
use Rattle.lr_host.specs.declared.entry.Entry.{Entry}
use Rattle.lr_host.specs.declared.journal.Journal.{Journal}
use Rattle.lr_host.specs.World.{Past, past, world, names}
use Rattle.lr_host.specs.Told.{Made, WhereTold}
use Rattle.lr_plan.specs.declared.mark.Mark.{Mark}
use Rattle.lr_plan.specs.declared.mark.Mark.TheVariants as mark
use Rattle.lr_plan.specs.declared.step.Step.{Step}
use Rattle.lr_plan.specs.declared.step.Step.TheVariants.{Removes, Renames, Creates}

-- where the journal is told, something has the path
abbrev pub PathIsNamed : Path → Option Journal → Type 0
PathIsNamed path told = WhereTold told (λ p. names (world p) path ≢ thing.Nothing)

-- something had the path at a moment between
pub data WasNamed (path : Path) : Option Journal → Option Journal → Type 0 where
  untold : WasNamed path None None
  at_moment : {j k : Journal} {es fs : List Entry} (p : Past) → Made (past j) es p → names (world p) path ≢ thing.Nothing
      → Made p fs (past k) → WasNamed path (Some j) (Some k)

-- the step takes the name of this path away; none of the steps does
abbrev pub TakesName : Path → Step → Type 0
TakesName path (Removes gone) = gone ≡ path
TakesName path (Renames from to) = from ≡ path
TakesName path _ = ⊥

abbrev pub KeepName : Path → List Step → Type 0
KeepName path [] = Unit {0}
KeepName path (step ∷ steps) = (TakesName path step → ⊥) × KeepName path steps

-- the step makes a log anew at this path; one of the steps does
abbrev pub CreatesAt : Path → Step → Type 0
CreatesAt path (Creates new mode) = new ≡ path
CreatesAt path _ = ⊥

abbrev pub OneCreates : Path → List Step → Type 0
OneCreates path [] = ⊥
OneCreates path (step ∷ steps) = CreatesAt path step ⊎ OneCreates path steps

-- behind each step that makes a log anew at this path, none takes its name away
abbrev pub LastsBehind : Path → List Step → Type 0
LastsBehind path [] = Unit {0}
LastsBehind path (step ∷ steps) = (CreatesAt path step → KeepName path steps) × LastsBehind path steps

-- one of the marks tells that the log was made anew
abbrev pub IsCreated : Path → Mark → Type 0
IsCreated path (mark.Created new) = new ≡ path
IsCreated path _ = ⊥

abbrev pub TellCreated : Path → List Mark → Type 0
TellCreated path [] = ⊥
TellCreated path (m ∷ marks) = IsCreated path m ⊎ TellCreated path marks

-- Of acts by these steps, which left these marks: a path that is named stays so, where none of the steps takes its name; a log that
-- was made anew is named at the end, where no step behind took its name.
pub record KeepsNames (steps : List Step) (marks : List Mark) (told later : Option Journal) : Type 0 where
  pub kept : (path : Path) → KeepName path steps → PathIsNamed path told → PathIsNamed path later
  pub created : (path : Path) → LastsBehind path steps → TellCreated path marks → PathIsNamed path later
  pub planned : (path : Path) → TellCreated path marks → OneCreates path steps
