-- What a reading under way knows.
use Rattle.std.specs.Prelude.{ℕ, ◌≡◌, false, List, [], ◌∷◌, ◌++◌, map, reverse, Option, Result, Ok, Err, option_to_list}
use Rattle.lr_rules.specs.declared.path.Path.{Path}
use Rattle.lr_rules.specs.declared.fault.Fault.{Fault}
use Rattle.lr_match.specs.Taboos.{first_taboo}
use Rattle.lr_conf.specs.declared.layer.Layer.{Layer}
use Rattle.lr_conf.specs.declared.stop.Include.{Include}
use Rattle.lr_conf.specs.declared.stop.LayerStop.{LayerStop}
use Rattle.lr_conf.specs.declared.stop.LayerStop.TheVariants as stop
use Rattle.lr_conf.specs.Stops.{layer_faults, include_of}
use Rattle.lr_conf.specs.Meaning.{ConfLine, Spoiled, End, meaning, ◌and◌, only_faults, asked, banned}
use Rattle.lr_conf.specs.Fold.{coming, asking, banning, entered, file_of_layer}
use Rattle.lr_host.specs.declared.entry.Entry.{Entry}
use Rattle.lr_host.specs.declared.journal.Journal.{Journal}
use Rattle.lr_host.specs.Told.{Left}
use Rattle.lr_include.specs.declared.visit.Visit.{Visit}
use Rattle.lr_include.specs.declared.course.Course.{Course}
use Rattle.lr_include.specs.declared.task.ReadPiece.{ReadPiece}
use Rattle.lr_host.specs.Counted.{RoseBy}
use Rattle.lr_include.specs.Allowed.{failed_in}
use Rattle.lr_include.specs.Stages.{Stage, ask_of, lines_now, open_behind, asks_now, at_visits, ShowsVisits}

-- The layer took these lines, with these faults, and these files are entered.
pub record Knows (layer : Layer) (faults : List Fault) (lines : List ConfLine) (inside : List Path) : Type 0 where
  pub means : (more : List ConfLine) → (only_faults faults and coming layer more) ≡ meaning false [] (lines ++ more)
  pub asks : (more : List ConfLine) → asked false (lines ++ more) ≡ asked false lines ++ asking layer more
  pub bans : (more : List ConfLine) → banned false first_taboo (lines ++ more) ≡ banning layer more
  pub files : entered layer ≡ inside

-- The course stands at this stage.
pub record StandsAt (c : Course) (s : Stage) : Type 0 where
  pub knows : Knows c.layer c.faults.items s.lines s.inside
  pub files : c.files ≡ s.files
  pub bytes : c.bytes ≡ s.bytes
  pub exposed : c.exposed ≡ s.exposed
  pub todo : reverse c.todo.items ≡ s.todo

-- A piece was taken in behind these lines.
pub record TookPiece (old new : Course) (p : ReadPiece) (lines : List ConfLine) (inside : List Path) : Type 0 where
  pub knows : Knows new.layer new.faults.items (lines ++ lines_now inside p) (open_behind inside p)
  pub files : new.files ≡ old.files
  pub bytes : new.bytes ≡ old.bytes
  pub exposed : new.exposed ≡ old.exposed
  pub todo : reverse new.todo.items ≡ asks_now inside lines p ++ reverse old.todo.items

abbrev pub TakesPiece : Course → Course → ReadPiece → Type 0
TakesPiece old new p = (lines : List ConfLine) (inside : List Path) → Knows old.layer old.faults.items lines inside
    → TookPiece old new p lines inside

-- The reading went on from one stage to another, by visits that the entries show, of which no more have a failed call than
-- the count of them rose by.
pub record WentOn (s t : Stage) (before after : Option Journal) (low high : ℕ) : Type 0 where
  pub visits : List (Option Visit)
  pub leads : (more : List (Option Visit)) → at_visits s (visits ++ more) ≡ at_visits t more
  pub shown : Left (λ ts. (more : List (Option Visit)) (us : List Entry) → ShowsVisits t more us
      → ShowsVisits s (visits ++ more) (ts ++ us)) before after
  pub counted : RoseBy (failed_in visits) low high

-- The course went on, from where it stood.
pub record GoesOn (s : Stage) (c : Course) (before after : Option Journal) (low high : ℕ) : Type 0 where
  pub stage : Stage
  pub stands : StandsAt c stage
  pub went : WentOn s stage before after low high

-- ---- steps

-- how much may still be read, and what, and which files were told that others may write
pub record SameRest (old new : Course) : Type 0 where
  pub files : new.files ≡ old.files
  pub bytes : new.bytes ≡ old.bytes
  pub exposed : new.exposed ≡ old.exposed
  pub todo : new.todo.items ≡ old.todo.items

-- These faults were told, and these files of it are asked for.
pub record CourseTells (old new : Course) (file : Path) (faults : List Fault) (includes : List Include) : Type 0 where
  pub layer : new.layer ≡ old.layer
  pub faults_are : new.faults.items ≡ old.faults.items ++ faults
  pub files : new.files ≡ old.files
  pub bytes : new.bytes ≡ old.bytes
  pub exposed : new.exposed ≡ old.exposed
  pub todo : new.todo.items ≡ old.todo.items ++ map (ask_of file) includes

-- what a layer answered was told
abbrev pub TellsAnswer : Course → Course → Path → Result (Option Include) LayerStop → Type 0
TellsAnswer old new file (Ok include) = CourseTells old new file [] (option_to_list include)
TellsAnswer old new file (Err stop.Memory) = ⊥
TellsAnswer old new file (Err s) = CourseTells old new file (layer_faults file s) (include_of s)

-- a fault was told behind these lines
pub record ToldFault (old new : Course) (f : Fault) : Type 0 where
  pub knows : (lines : List ConfLine) (inside : List Path) → Knows old.layer old.faults.items lines inside
      → Knows new.layer new.faults.items (lines ++ Spoiled f ∷ []) inside
  pub entered_are : entered new.layer ≡ entered old.layer
  pub rest : SameRest old new

-- the end of the file was taken in, and it is entered still
pub record ClosesFile (old new : Course) : Type 0 where
  pub knows : (lines : List ConfLine) (inside : List Path) → Knows old.layer old.faults.items lines inside
      → Knows new.layer new.faults.items (lines ++ End (file_of_layer old.layer) ∷ []) inside
  pub entered_are : entered new.layer ≡ entered old.layer
  pub rest : SameRest old new

-- all but what is still to be read is the same
pub record SameButTodo (old new : Course) : Type 0 where
  pub layer : new.layer ≡ old.layer
  pub faults : new.faults.items ≡ old.faults.items
  pub files : new.files ≡ old.files
  pub bytes : new.bytes ≡ old.bytes
  pub exposed : new.exposed ≡ old.exposed
