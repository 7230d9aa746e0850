-- For proofs: the parts of it.
use Rattle.std.specs.Prelude.{◌≡◌, ◌<◌, ◌≤◌, ◌+◌, Bool, ℕ, List, [], ◌∷◌, ◌++◌, length, Option, Some, None, Result, Ok, Err, IfOk}
use Rattle.lr_rules.specs.declared.path.Path.{Path}
use Rattle.lr_rules.specs.declared.fault.Fault.TheVariants as fault
use Rattle.lr_rules.specs.declared.memory.Memory.{Memory}
use Rattle.lr_host.specs.declared.entry.Entry.{Entry}
use Rattle.lr_host.specs.declared.entry.Entry.TheVariants as entry
use Rattle.lr_host.specs.declared.journal.Journal.{Journal}
use Rattle.lr_host.specs.Told.{Left, Are}
use Rattle.lr_state.specs.Given.{Given, HasTaken}
use Rattle.lr_state.specs.Table as table
use Rattle.lr_state.specs.declared.text.StateStop.{StateStop}
use Rattle.lr_state.specs.declared.text.StateStop.TheVariants as whole
use Rattle.lr_state.specs.declared.look.LookStop.{LookStop}
use Rattle.lr_state.specs.declared.reading_pieces.ReadStop.{ReadStop}
use Rattle.lr_state.specs.declared.reading_pieces.ReadStop.TheVariants as read
use Rattle.lr_state.specs.Known.{Known, IsKnownBy, IsKnownBehind, text_read}
use Rattle.lr_state.specs.ReadPieces.{Reading, Whole, Broken, IsLast, IsReading, bytes_of, reads_of}
use Rattle.lr_state.specs.Sights.{StateSight, found, state_look, part_entries, text_entries}

-- One look, and what was found.
pub record FindsState (path : Path) (result : Result Bool LookStop) (ts : List Entry) : Type 0 where
  pub sight : StateSight
  pub entries : ts ≡ state_look path sight
  pub found_is : result ≡ found sight

-- a piece that isn't the last has bytes, and the next begins here
abbrev pub FollowsPiece : ℕ → Option ℕ → List ℕ → Type 0
FollowsPiece place None piece = IsLast place piece
FollowsPiece place (Some next) piece = (0 < length piece) × (next ≡ place + length piece) × (next ≤ 67_108_864)

-- One read from a place, which gave a piece that was handed on.
pub record ReadsOn (path : Path) (place size : ℕ) (next : Option ℕ) (before after : Given)
    (told later : Option Journal) : Type 0 where
  pub piece : List ℕ
  pub short : length piece ≤ size
  pub follows : FollowsPiece place next piece
  pub taken : (bytes : List ℕ) → HasTaken before bytes → HasTaken after (bytes ++ piece)
  pub entries : Left (Are (entry.Reads path place piece ∷ [])) told later

-- one that failed left nothing; where there was no memory for its piece, it was made
pub record ReadsOne (path : Path) (place size : ℕ) (ts : List Entry) : Type 0 where
  pub piece : List ℕ
  pub short : length piece ≤ size
  pub entries : ts ≡ entry.Reads path place piece ∷ []

abbrev pub StopsAtPiece : Path → ℕ → ℕ → ReadStop → List Entry → Type 0
StopsAtPiece path place size read.Call ts = ts ≡ []
StopsAtPiece path place size read.Memory ts = ReadsOne path place size ts

-- The text was read whole, and handed on.
pub record HandsOnWhole (path : Path) (size : ℕ) (after : Given) (told later : Option Journal) : Type 0 where
  pub pieces : List (List ℕ)
  pub last : List ℕ
  pub reading : IsReading size (Whole pieces last)
  pub taken : HasTaken after (bytes_of pieces ++ last)
  pub entries : Left (Are (reads_of path (Whole pieces last))) told later

-- the reading, of which this holds
pub record ReadsSo (path : Path) (size : ℕ) (P : Reading → Type 0) (ts : List Entry) : Type 0 where
  pub reading : Reading
  pub is : IsReading size reading
  pub so : P reading
  pub entries : ts ≡ reads_of path reading

abbrev pub IsBroken : Reading → Type 0
IsBroken (Broken pieces) = Unit {0}
IsBroken (Whole pieces last) = ⊥

-- it stopped: at a read that failed, or where there was no memory
abbrev pub Stops : ReadStop → Reading → Type 0
Stops read.Call reading = IsBroken reading
Stops read.Memory reading = Unit {0}

-- the reading of the text where its file stands, and what is known by that
pub record ReadsText (state : Path) (size : ℕ) (there stale : Bool) (answer : Result Known Memory) (ts : List Entry) : Type 0 where
  pub reading : Reading
  pub is : IsReading size reading
  pub entries : ts ≡ text_entries state there reading
  pub known : IfOk answer (IsKnownBy stale (text_read state there reading))

-- the same from the look at the part file on
pub record ReadsPartFile (state : Path) (size : ℕ) (there : Bool) (answer : Result Known Memory) (ts : List Entry) : Type 0 where
  pub part : StateSight
  pub reading : Reading
  pub is : IsReading size reading
  pub entries : ts ≡ part_entries state there part reading
  pub known : IfOk answer (IsKnownBehind state there (found part) reading)

-- the answer by what a reader says
abbrev pub IsKnownByReader : Bool → Result (List table.StateEntry) StateStop → Result Known Memory → Type 0
IsKnownByReader stale (Ok entries) answer = answer ≡ Ok (Ok (record { table = entries; stale = stale }))
IsKnownByReader stale (Err (whole.Bad line kind)) answer = answer ≡ Ok (Err (fault.State line kind))
IsKnownByReader stale (Err whole.Memory) answer = IfOk answer (λ known. ⊥)
