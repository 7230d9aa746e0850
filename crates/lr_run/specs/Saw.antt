-- What a run saw, as a value, and how its entries show it.
use Rattle.std.specs.Prelude.{◌≡◌, ◌≤◌, ℕ, Bool, true, List, [], length, Ok}
use Rattle.lr_rules.specs.declared.clock.Clock.{Clock}
use Rattle.lr_rules.specs.declared.fault.Fault.{Fault}
use Rattle.lr_rules.specs.declared.path.Path.{Path}
use Rattle.lr_rules.specs.declared.rule.Rule.{Rule}
use Rattle.lr_rules.specs.Path.{parent_of}
use Rattle.lr_host.specs.declared.entry.Entry.{Entry}
use Rattle.lr_host.specs.declared.entry.Entry.TheVariants.{Reads}
use Rattle.lr_host.specs.Lists.{IsIn}
use Rattle.lr_host.specs.Looks.{Sees, IsDir, IsNothing}
use Rattle.lr_state.specs.Table.{StateEntry as Row}
use Rattle.lr_state.specs.Written.{table_text}
use Rattle.lr_plan.specs.Asked.{Asked}
use Rattle.lr_plan.specs.declared.looks.SetLooks.{SetLooks}
use Rattle.lr_plan.specs.declared.plan.Plan.{Plan}
use Rattle.lr_plan.specs.Planned.{plan_of}
use Rattle.lr_looks.specs.Found.{FoundLog, paths_of}
use Rattle.lr_looks.specs.Shown.{ShowsLooks}
use Rattle.lr_looks.specs.Sights.{WordSight}
use Rattle.lr_state.specs.Known.{TextSaysOnly, text_read as read_of}
use Rattle.lr_state.specs.Sights.{StateSights, ShowsState, found}
use Rattle.lr_state.specs.After.{after}
use Rattle.lr_looks.specs.Reserved.{reserved_by}
use Rattle.lr_run.specs.Paths.{measured_of}

-- ---- the value

-- What a run saw: the text of its state, the table that this says, and whether an old part file stood; what each word of the rules
-- came to; the logs that are kept, and, definition by definition, those of them that were looked at whole; and the faults of its
-- looks.
pub record Saw : Type 0 where
  pub text : List ℕ
  pub table : List Row
  pub stale : Bool
  pub words : List WordSight
  pub kept : List FoundLog
  pub sets : List SetLooks
  pub faults : List Fault

-- the plan that follows by these rules
abbrev pub plan_by : List Rule → Saw → Clock → Asked → Plan
plan_by rules saw clock asked = plan_of rules saw.sets saw.table clock asked

-- the text of the state, brought up to the clock by what was seen, with these logs as rotated
abbrev pub text_by : Saw → Clock → List Path → List ℕ
text_by saw clock rotated = table_text (after saw.table rotated (paths_of saw.kept) clock.now.civil)

-- the text that is measured before the first act of a plan
abbrev pub measured_by : Saw → Plan → Clock → List ℕ
measured_by saw plan clock = measured_of plan saw.table (paths_of saw.kept) clock.now.civil

-- ---- how entries show it

-- The state's file was read whole, or nothing stood at its path, and then the text is empty; and at the path of its part file an
-- old one stood, or nothing did.
pub record ShowsStateText (state : Path) (text : List ℕ) (stale : Bool) (ts : List Entry) : Type 0 where
  pub sights : StateSights
  pub there : Bool
  pub stood : found sights.state ≡ Ok there
  pub part : found sights.part ≡ Ok stale
  pub read : read_of state there sights.reading ≡ Ok text
  pub shown : ShowsState state 65_536 sights ts

-- The state's directory was seen, and then its text; or, of a dry run, nothing stood at the directory's path, and the text is
-- empty.
pub data ShowsStateFile (debug : Bool) (state : Path) (text : List ℕ) (stale : Bool) (dir reads : List Entry) : Type 0 where
  by_dir : Sees (parent_of state) IsDir dir → ShowsStateText state text stale reads
      → ShowsStateFile debug state text stale dir reads
  by_none : debug ≡ true → Sees (parent_of state) IsNothing dir → text ≡ [] → reads ≡ []
      → ShowsStateFile debug state text stale dir reads

-- The words, the logs and the faults are those that these looks show.
pub record ShowsSets (state : Path) (rules : List Rule) (saw : Saw) (ts : List Entry) : Type 0 where
  pub shown : ShowsLooks (reserved_by state) rules saw.sets saw.faults ts
  pub words_are : saw.words ≡ shown.entries.first.sights
  pub kept_are : saw.kept ≡ shown.kept

-- The run saw this: by the look at the state's directory and the reads of its text, which says the table, and nothing else; and by
-- its looks.
pub record ShowsSaw (debug : Bool) (state : Path) (rules : List Rule) (saw : Saw) (dir reads looks : List Entry) : Type 0 where
  pub file : ShowsStateFile debug state saw.text saw.stale dir reads
  pub says : TextSaysOnly saw.text (Ok saw.table)
  pub sets : ShowsSets state rules saw looks

-- each read gave 65,536 bytes at most
abbrev pub HasShortReads : List Entry → Type 0
HasShortReads ts = (x : Path) (place : ℕ) (piece : List ℕ) → IsIn (Reads x place piece) ts → length piece ≤ 65_536
