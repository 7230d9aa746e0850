-- Runs that ended before their plan, dry ones and others.
use Rattle.std.specs.Prelude.{◌≡◌, ◌<◌, Bool, true, false, List, [], ◌∷◌, ◌++◌, length, Option, Ok, Err}
use Rattle.lr_rules.specs.declared.clock.Clock.{Clock}
use Rattle.lr_rules.specs.declared.fault.CallKind.TheVariants as call
use Rattle.lr_rules.specs.declared.fault.Fault.{Fault}
use Rattle.lr_rules.specs.declared.fault.Fault.TheVariants as fault
use Rattle.lr_rules.specs.declared.fault.StateKind.TheVariants as kind
use Rattle.lr_rules.specs.declared.path.Path.{Path}
use Rattle.lr_rules.specs.declared.rule.Rule.{Rule}
use Rattle.lr_rules.specs.declared.rules.Rules.{Rules}
use Rattle.lr_rules.specs.Path.{parent_of}
use Rattle.lr_host.specs.declared.entry.Entry.{Entry}
use Rattle.lr_host.specs.declared.entry.Entry.TheVariants.{Starts}
use Rattle.lr_host.specs.declared.thing.Seen.{Seen}
use Rattle.lr_host.specs.Looks.{Sees, IsDir, IsNoDir, IsNotDir, IsNothing}
use Rattle.lr_host.specs.Told.{Then, Maybe}
use Rattle.lr_plan.specs.Asked.{Asked}
use Rattle.lr_looks.specs.Shown.{ShowsSomeLooks}
use Rattle.lr_state.specs.Known.{IsKnown}
use Rattle.lr_state.specs.Sights.{StateSights, ShowsState}
use Rattle.lr_state.specs.declared.remembered.Remembered.{Remembered}
use Rattle.lr_looks.specs.Reserved.{reserved_by}
use Rattle.lr_looks.specs.Inside.{Inside}
use Rattle.lr_run.specs.Saw.{Saw, ShowsSaw, plan_by, measured_by}
use Rattle.lr_run.specs.Work.{entries_of}

-- Why a run ended before its plan: by these faults of its own; the lock is another's; or for want of memory.
pub data Halt : Type 0 where
  OfFaults : List Fault → Halt
  OfLock : Halt
  OfMemory : Halt

-- What a look at the state's directory saw ends a run: nothing, or another kind of thing. A dry run goes on where it saw nothing.
abbrev pub DirBars : Bool → Option Seen → Type 0
DirBars true seen = IsNoDir seen
DirBars false seen = IsNotDir seen

-- Behind the look at the state's directory, and in a run that acts between its begin and its end, these are so.
abbrev pub Within : Bool → Path → Clock → Rules → (List Entry → Type 0) → List Entry → Type 0
Within true state clock rules P ts = Then (Sees (parent_of state) IsDir) P ts
Within false state clock rules P ts = Inside state clock rules P ts

-- A first part of what is read of the state, or all of it and a first part of the looks.
pub data SomeSeen (state : Path) (rules : List Rule) (ts : List Entry) : Type 0 where
  of_state : (sights : StateSights) → ShowsState state 65_536 sights ts → SomeSeen state rules ts
  of_looks : (sights : StateSights) (remembered : Remembered) → IsKnown state sights (Ok remembered)
      → Then (ShowsState state 65_536 sights) (ShowsSomeLooks (reserved_by state) rules) ts → SomeSeen state rules ts

-- Nothing is known of the state, as this fault tells.
pub record LacksState (state : Path) (f : Fault) (ts : List Entry) : Type 0 where
  pub sights : StateSights
  pub known : IsKnown state sights (Err f)
  pub shown : ShowsState state 65_536 sights ts

-- This was seen, and the text of the state could become too big by the plan that follows.
pub record Outgrows (debug : Bool) (state : Path) (rules : Rules) (clock : Clock) (asked : Asked) (saw : Saw)
    (ts : List Entry) : Type 0 where
  pub dir : List Entry
  pub reads : List Entry
  pub looks : List Entry
  pub entries : ts ≡ entries_of debug state clock rules dir reads looks []
  pub seen : ShowsSaw debug state rules.sets saw dir reads looks
  pub big : 67_108_864 < length (measured_by saw (plan_by rules.sets saw clock asked) clock)

-- A run ended so before its plan: the look at the state's directory failed, or saw none; another held the lock; the begin failed,
-- with its entry or without; nothing is known of the state; its text could become too big; or there was no memory, before the first
-- call, or behind a first part of what is seen.
pub data Halts (debug : Bool) (state : Path) (rules : Rules) (clock : Clock) (asked : Asked) (halt : Halt)
    (ts : List Entry) : Type 0 where
  not_seen : halt ≡ OfFaults (fault.Call call.Look (parent_of state) ∷ []) → ts ≡ [] → Halts debug state rules clock asked halt ts
  no_directory : halt ≡ OfFaults (fault.NoDir (parent_of state) ∷ []) → Sees (parent_of state) (DirBars debug) ts
      → Halts debug state rules clock asked halt ts
  held : debug ≡ false → halt ≡ OfLock → Sees (parent_of state) IsDir ts → Halts debug state rules clock asked halt ts
  not_begun : debug ≡ false → halt ≡ OfFaults (fault.Call call.Begin state ∷ [])
      → Then (Sees (parent_of state) IsDir) (Maybe (Starts state clock.now rules)) ts → Halts debug state rules clock asked halt ts
  unknown : (f : Fault) → halt ≡ OfFaults (f ∷ []) → Within debug state clock rules (LacksState state f) ts
      → Halts debug state rules clock asked halt ts
  too_big : (saw : Saw) → halt ≡ OfFaults (saw.faults ++ fault.State 0 kind.TooBig ∷ [])
      → Outgrows debug state rules clock asked saw ts → Halts debug state rules clock asked halt ts
  no_memory : halt ≡ OfMemory → ts ≡ [] → Halts debug state rules clock asked halt ts
  short : halt ≡ OfMemory → Within debug state clock rules (SomeSeen state rules.sets) ts
      → Halts debug state rules clock asked halt ts
  short_anew : debug ≡ true → halt ≡ OfMemory → Then (Sees (parent_of state) IsNothing)
      (ShowsSomeLooks (reserved_by state) rules.sets) ts → Halts debug state rules clock asked halt ts
