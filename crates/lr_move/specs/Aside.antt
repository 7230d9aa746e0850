-- The entries that set a log aside, and where that breaks off.
use Rattle.std.specs.Prelude.{◌≡◌, ◌↔◌, ℕ, List, [], ◌∷◌, ◌++◌, Option, Some, None, Result, Err}
use Rattle.lr_rules.specs.declared.path.Path.{Path}
use Rattle.lr_rules.specs.declared.fault.CallKind.{CallKind}
use Rattle.lr_rules.specs.declared.fault.CallKind.TheVariants as call
use Rattle.lr_host.specs.declared.entry.Entry.{Entry}
use Rattle.lr_host.specs.declared.entry.Entry.TheVariants.{Renames, SyncsDir}
use Rattle.lr_host.specs.Looks.{Sees, IsNoDir}
use Rattle.lr_host.specs.Told.{Counts, Rose, Then, Are, Maybe}
use Rattle.lr_chain.specs.declared.chain.ChainStop.{ChainStop}
use Rattle.lr_chain.specs.declared.chain.ChainStop.TheVariants as stop
use Rattle.lr_chain.specs.declared.ready.Ready.{Ready}
use Rattle.lr_chain.specs.Ready.{shift_of, BehindDir}
use Rattle.lr_chain.specs.Stops.{ChainStopped, IsFrom, IsOfDir}

-- the moves of the members, made durable
abbrev pub synced_shift : Ready → Path → List Entry
synced_shift ready dir = shift_of ready ++ SyncsDir dir ∷ []

-- and then the log's way to the path where it waits
abbrev pub aside_of : Ready → Path → Path → List Entry
aside_of ready dir tmp = synced_shift ready dir ++ Renames ready.log tmp ∷ []

-- ---- where it breaks off

-- this call failed, at this path
abbrev pub FailedCallAt : CallKind → Path → ChainStop → Type 0
FailedCallAt kind path (stop.Call k p) = (k ≡ kind) × (p.now ≡ path)
FailedCallAt kind path (stop.NotFile p) = ⊥

-- What is left then: of the directory and the moves, a part; or all of them, and the entry of the sync that failed, or none; or the
-- sync too, and the entry of the log's rename that failed, or none.
pub data AsideStopped (ready : Ready) (dir tmp : Path) (why : ChainStop) (ts : List Entry) : Type 0 where
  at_members : ChainStopped ready.dir (shift_of ready) why ts → AsideStopped ready dir tmp why ts
  at_sync : FailedCallAt call.Sync dir why → BehindDir ready.dir (Then (Are (shift_of ready)) (Maybe (SyncsDir dir))) ts
      → AsideStopped ready dir tmp why ts
  at_log : FailedCallAt call.Rename ready.log why
      → BehindDir ready.dir (Then (Are (synced_shift ready dir)) (Maybe (Renames ready.log tmp))) ts
      → AsideStopped ready dir tmp why ts

-- ---- why

-- it is one of the calls: of the directory, of a move or of the log, or the sync
abbrev pub IsCallOf : Ready → Path → Path → CallKind → Path → Type 0
IsCallOf ready dir tmp call.MakeDir path = IsOfDir ready.dir path
IsCallOf ready dir tmp call.Look path = IsOfDir ready.dir path
IsCallOf ready dir tmp call.Sync path = path ≡ dir
IsCallOf ready dir tmp call.Rename path = IsFrom (aside_of ready dir tmp) path
IsCallOf ready dir tmp _ path = ⊥

-- A call failed, and faults rose. Or something else has the path of the directory that was to be made.
abbrev pub AsideCause : Ready → Path → Path → ChainStop → Counts → Counts → Type 0
AsideCause ready dir tmp (stop.Call kind path) before now = IsCallOf ready dir tmp kind path.now × Rose before.faults now.faults
AsideCause ready dir tmp (stop.NotFile path) before now = IsOfDir ready.dir path.now

-- a directory was to be made, its path was named, and a look there saw something else; and that was all
abbrev pub SawNoDir : Option (Path × Option ℕ) → List Entry → Type 0
SawNoDir None ts = ⊥
SawNoDir (Some (dir, mode)) ts = Sees dir IsNoDir ts

-- it is answered that something else has the path
abbrev pub TellsNotFile : Result (Unit {0}) ChainStop → Type 0
TellsNotFile (Err (stop.NotFile path)) = Unit {0}
TellsNotFile _ = ⊥

-- exactly where that was seen
abbrev pub IsNotFileExactly : Option (Path × Option ℕ) → Result (Unit {0}) ChainStop → List Entry → Type 0
IsNotFileExactly dir result ts = TellsNotFile result ↔ SawNoDir dir ts
