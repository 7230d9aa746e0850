-- Where a copy broke off, and why.
use Rattle.std.specs.Prelude.{◌≡◌, ◌≢◌, ℕ, true, List, [], ◌∷◌, Option}
use Rattle.lr_rules.specs.declared.fault.CallKind.TheVariants as call
use Rattle.lr_host.specs.declared.thing.Thing.TheVariants as thing
use Rattle.lr_host.specs.declared.entry.Entry.{Entry}
use Rattle.lr_host.specs.declared.entry.Entry.TheVariants.{Renames, Makes, Truncates, Unlinks, SyncsFile, SyncsDir}
use Rattle.lr_host.specs.declared.journal.Journal.{Journal}
use Rattle.lr_host.specs.World.{world, names}
use Rattle.lr_host.specs.Told.{Then, Are, Counts, Rose, WhereTold, Maybe}
use Rattle.lr_copy.specs.declared.job.BytesStop.TheVariants as broke
use Rattle.lr_copy.specs.declared.job.Job.{Job}
use Rattle.lr_copy.specs.declared.job.CopyStop.{CopyStop}
use Rattle.lr_copy.specs.declared.job.CopyStop.TheVariants as stop
use Rattle.lr_copy.specs.Bytes.{BytesBroke}
use Rattle.lr_copy.specs.Copying.{Copies, clearing, opening, Fills, naming}

-- The part file wasn't made: the unlink of an old one failed, or the make, with its entry or without; or the path is named, and no
-- make stands.
abbrev pub OpenStopped : Job → CopyStop → List Entry → Type 0
OpenStopped job (stop.Call call.Unlink path) ts = (path.now ≡ job.part) × (job.stale ≡ true) × Maybe (Unlinks job.part) ts
OpenStopped job (stop.Call call.Make path) ts = (path.now ≡ job.part)
    × Then (Are (clearing job)) (Maybe (Makes job.part job.mode)) ts
OpenStopped job (stop.Taken path) ts = (path.now ≡ job.part) × (ts ≡ clearing job)
OpenStopped job _ ts = ⊥

-- It didn't get the bytes, or not durably: they broke off, or its sync failed.
abbrev pub FillStopped : Job → CopyStop → List Entry → Type 0
FillStopped job (stop.Call call.Read path) ts = (path.now ≡ job.from) × BytesBroke job.from job.part job.limit broke.Read ts
FillStopped job (stop.Call call.Append path) ts = (path.now ≡ job.part) × BytesBroke job.from job.part job.limit broke.Append ts
FillStopped job (stop.TooLong path) ts = (path.now ≡ job.from) × BytesBroke job.from job.part job.limit broke.TooLong ts
FillStopped job (stop.Call call.Sync path) ts = (path.now ≡ job.part)
    × ((count : ℕ) × Then (Copies job count) (Maybe (SyncsFile job.part)) ts)
FillStopped job _ ts = ⊥

-- It didn't get its final path, or not durably.
abbrev pub NameStopped : Job → CopyStop → List Entry → Type 0
NameStopped job (stop.Call call.Rename path) ts = (path.now ≡ job.part) × Maybe (Renames job.part job.to) ts
NameStopped job (stop.Call call.Sync path) ts = (path.now ≡ job.dir)
    × Then (Are (Renames job.part job.to ∷ [])) (Maybe (SyncsDir job.dir)) ts
NameStopped job _ ts = ⊥

-- The truncation failed.
abbrev pub CutStopped : Job → CopyStop → List Entry → Type 0
CutStopped job (stop.Call call.Truncate path) ts = (path.now ≡ job.from) × (job.cut ≡ true) × Maybe (Truncates job.from) ts
CutStopped job _ ts = ⊥

-- One of these, behind the parts before it.
pub data CloseStopped (job : Job) (why : CopyStop) (ts : List Entry) : Type 0 where
  at_name : NameStopped job why ts → CloseStopped job why ts
  at_cut : Then (Are (naming job)) (CutStopped job why) ts → CloseStopped job why ts

-- What a copy that broke off left: all of the parts before, and of the one that broke off what the calls before the failed one
-- left, and of that its entry or none.
pub data CopyStopped (job : Job) (why : CopyStop) (ts : List Entry) : Type 0 where
  at_open : OpenStopped job why ts → CopyStopped job why ts
  at_fill : Then (Are (opening job)) (FillStopped job why) ts → CopyStopped job why ts
  at_close : (count : ℕ) → Then (Are (opening job)) (Then (Fills job count) (CloseStopped job why)) ts → CopyStopped job why ts

-- A call fails only where faults rose.
abbrev pub CopyCause : CopyStop → Counts → Counts → Type 0
CopyCause (stop.Call kind path) before now = Rose before.faults now.faults
CopyCause _ before now = Unit {0}

-- A path that is taken is named, where the journal is told.
abbrev pub ShowsTaken : CopyStop → Option Journal → Type 0
ShowsTaken (stop.Taken path) told = WhereTold told (λ p. names (world p) path.now ≢ thing.Nothing)
ShowsTaken _ told = Unit {0}

-- ---- what is left undone

-- the entry empties no file
abbrev pub EmptiesNone : Entry → Type 0
EmptiesNone (Truncates x) = ⊥
EmptiesNone _ = Unit {0}

-- the entry renames none
abbrev pub RenamesNone : Entry → Type 0
RenamesNone (Renames from to) = ⊥
RenamesNone _ = Unit {0}

-- the truncation failed
abbrev pub IsCutStop : CopyStop → Type 0
IsCutStop (stop.Call call.Truncate path) = Unit {0}
IsCutStop _ = ⊥

-- neither a rename, nor a sync, nor a truncation failed
abbrev pub IsEarly : CopyStop → Type 0
IsEarly (stop.Call call.Rename path) = ⊥
IsEarly (stop.Call call.Sync path) = ⊥
IsEarly (stop.Call call.Truncate path) = ⊥
IsEarly _ = Unit {0}
