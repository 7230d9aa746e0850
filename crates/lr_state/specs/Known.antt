-- What a run knows of the state by what the looks and the reading came to.
use Rattle.std.specs.Prelude.{◌≡◌, ◌⊎◌, Bool, true, false, ℕ, List, [], ◌++◌, Result, Ok, Err, IfOk}
use Rattle.lr_rules.specs.declared.path.Path.{Path}
use Rattle.lr_rules.specs.declared.memory.Memory.{Memory}
use Rattle.lr_rules.specs.declared.fault.CallKind.TheVariants as call
use Rattle.lr_rules.specs.declared.fault.Fault.{Fault}
use Rattle.lr_rules.specs.StatePath.{state_part}
use Rattle.lr_rules.specs.declared.fault.Fault.TheVariants as fault
use Rattle.lr_host.specs.declared.entry.Entry.{Entry}
use Rattle.lr_state.specs.Grammar.{StateSaid, TextSays}
use Rattle.lr_state.specs.declared.look.LookStop.{LookStop}
use Rattle.lr_state.specs.declared.look.LookStop.TheVariants as stop
use Rattle.lr_state.specs.declared.remembered.Remembered.{Remembered}
use Rattle.lr_state.specs.ReadPieces.{Reading, Whole, Broken, bytes_of}
use Rattle.lr_state.specs.Sights.{StateSights, ShowsState, found}

-- what is remembered, or the fault that tells why nothing is
abbrev pub Known : Type 0
Known = Result Remembered Fault

-- the fault of a path where the look failed or saw neither a regular file nor nothing
abbrev pub state_look_fault : LookStop → Path → Fault
state_look_fault stop.Call path = fault.Call call.Look path
state_look_fault stop.NotFile path = fault.NotFile path

-- the text: none where no file stands, else what was read of it; or the fault of a read that failed
abbrev pub text_read : Path → Bool → Reading → Result (List ℕ) Fault
text_read state false reading = Ok []
text_read state true (Whole pieces last) = Ok (bytes_of pieces ++ last)
text_read state true (Broken pieces) = Err (fault.Call call.Read state)

-- what a text says: its table, beside whether an old part file stands; or its first fault
abbrev pub known_of : Bool → StateSaid → Known
known_of stale (Ok table) = Ok (record { table = table; stale = stale })
known_of stale (Err bad) = Err (fault.State bad.0 bad.1)

-- a text says this and nothing else
abbrev pub TextSaysOnly : List ℕ → StateSaid → Type 0
TextSaysOnly text said = TextSays text said × ((other : StateSaid) → TextSays text other → other ≡ said)

-- This is known by the text: what it says, or why there is none.
abbrev pub IsKnownBy : Bool → Result (List ℕ) Fault → Known → Type 0
IsKnownBy stale (Ok text) known = (said : StateSaid) × TextSaysOnly text said × (known ≡ known_of stale said)
IsKnownBy stale (Err why) known = known ≡ Err why

-- This is known by the part file that was found, and by the text.
abbrev pub IsKnownBehind : Path → Bool → Result Bool LookStop → Reading → Known → Type 0
IsKnownBehind state there (Ok stale) reading known = IsKnownBy stale (text_read state there reading) known
IsKnownBehind state there (Err why) reading known = known ≡ Err (state_look_fault why (state_part state))

-- This is known by the state's file that was found, by the part file, and by the text: the first fault counts.
abbrev pub IsKnownOf : Path → Result Bool LookStop → Result Bool LookStop → Reading → Known → Type 0
IsKnownOf state (Ok there) part reading known = IsKnownBehind state there part reading known
IsKnownOf state (Err why) part reading known = known ≡ Err (state_look_fault why state)

-- This is known by what all of it came to.
abbrev pub IsKnown : Path → StateSights → Known → Type 0
IsKnown state s known = IsKnownOf state (found s.state) (found s.part) s.reading known

-- The entries show what the looks and the reading came to, and the answer is what is known by that. Where there was no memory, a
-- first part of them was made.
pub record ReadsState (state : Path) (size : ℕ) (answer : Result Known Memory) (ts : List Entry) : Type 0 where
  pub sights : StateSights
  pub shown : ShowsState state size sights ts
  pub known : IfOk answer (IsKnown state sights)

-- Also of a host that tells nothing: the faults that there may be.
abbrev pub IsStateFault : Path → Fault → Type 0
IsStateFault state (fault.Call call.Look path) = (path ≡ state) ⊎ (path ≡ state_part state)
IsStateFault state (fault.Call call.Read path) = path ≡ state
IsStateFault state (fault.NotFile path) = (path ≡ state) ⊎ (path ≡ state_part state)
IsStateFault state (fault.State line kind) = Unit {0}
IsStateFault state _ = ⊥
