-- What the looks at the state's files and the reading of its text came to, and the entries that they left.
use Rattle.std.specs.Prelude.{◌≡◌, Bool, true, false, ℕ, List, [], ◌∷◌, ◌++◌, Some, None, Result, Ok, Err}
use Rattle.lr_rules.specs.declared.path.Path.{Path}
use Rattle.lr_rules.specs.StatePath.{state_part}
use Rattle.lr_host.specs.declared.thing.Kind.{Kind}
use Rattle.lr_host.specs.declared.thing.Kind.TheVariants as kind
use Rattle.lr_host.specs.declared.thing.Seen.{Seen}
use Rattle.lr_host.specs.declared.entry.Entry.{Entry}
use Rattle.lr_host.specs.declared.entry.Entry.TheVariants as entry
use Rattle.lr_state.specs.declared.look.LookStop.{LookStop}
use Rattle.lr_state.specs.declared.look.LookStop.TheVariants as stop
use Rattle.lr_state.specs.ReadPieces.{Reading, IsReading, reads_of}

-- What a look came to: it failed, saw nothing, or saw this.
pub data StateSight : Type 0 where
  Failed : StateSight
  Nothing : StateSight
  Saw : Seen → StateSight

-- What all of it came to. What wasn't looked at, and a text that wasn't read, may be anything here.
pub record StateSights : Type 0 where
  pub state : StateSight
  pub part : StateSight
  pub reading : Reading

-- the entry of a look; one that failed left none
abbrev pub state_look : Path → StateSight → List Entry
state_look path Failed = []
state_look path Nothing = entry.Look path None ∷ []
state_look path (Saw seen) = entry.Look path (Some seen) ∷ []

abbrev pub found_kind : Kind → Result Bool LookStop
found_kind kind.File = Ok true
found_kind _ = Err stop.NotFile

-- whether a regular file stands there, rather than nothing; or what is wrong with what does
abbrev pub found : StateSight → Result Bool LookStop
found Failed = Err stop.Call
found Nothing = Ok false
found (Saw seen) = found_kind seen.kind

-- ---- the entries

-- The text is read where its file stands.
abbrev pub text_entries : Path → Bool → Reading → List Entry
text_entries state true reading = reads_of state reading
text_entries state false reading = []

-- It is read where the part file is a regular one or none.
abbrev pub behind_part : Path → Bool → Result Bool LookStop → Reading → List Entry
behind_part state there (Ok stale) reading = text_entries state there reading
behind_part state there (Err why) reading = []

abbrev pub part_entries : Path → Bool → StateSight → Reading → List Entry
part_entries state there part reading = state_look (state_part state) part ++ behind_part state there (found part) reading

-- The part file is looked at where the state's file is a regular one or none.
abbrev pub behind_state : Path → Result Bool LookStop → StateSight → Reading → List Entry
behind_state state (Ok there) part reading = part_entries state there part reading
behind_state state (Err why) part reading = []

-- the look at the state's file, and what comes behind it
abbrev pub state_entries : Path → StateSights → List Entry
state_entries state s = state_look state s.state ++ behind_state state (found s.state) s.part s.reading

-- The entries show that the looks and the reading, by pieces of so many bytes at most, came to this.
pub record ShowsState (state : Path) (size : ℕ) (sights : StateSights) (ts : List Entry) : Type 0 where
  pub reading : IsReading size sights.reading
  pub entries : ts ≡ state_entries state sights
