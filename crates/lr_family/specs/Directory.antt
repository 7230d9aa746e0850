-- What the looks at a directory and at its parent left.
use Rattle.std.specs.Prelude.{◌≡◌, Bool, true, false, List, []}
use Rattle.lr_rules.specs.declared.path.Path.{Path}
use Rattle.lr_rules.specs.declared.fault.CallKind.TheVariants as call
use Rattle.lr_rules.specs.declared.fault.Fault.{Fault}
use Rattle.lr_rules.specs.declared.fault.Fault.TheVariants as fault
use Rattle.lr_rules.specs.Path.{parent_of}
use Rattle.lr_host.specs.declared.entry.Entry.{Entry}
use Rattle.lr_family.specs.declared.directory.DirStop.{DirStop}
use Rattle.lr_family.specs.declared.directory.DirStop.TheVariants as dir
use Rattle.lr_family.specs.declared.stand.StandStop.{StandStop}
use Rattle.lr_family.specs.declared.stand.StandStop.TheVariants as stop
use Rattle.lr_host.specs.Looks.{Sees, IsNothing, IsDir, IsNoDir}

-- the directory was seen, or nothing
abbrev pub DirSeen : Path → Bool → List Entry → Type 0
DirSeen path true ts = Sees path IsDir ts
DirSeen path false ts = Sees path IsNothing ts

-- the look failed, or saw something else
abbrev pub DirLookStopped : Path → DirStop → List Entry → Type 0
DirLookStopped path dir.Call ts = ts ≡ []
DirLookStopped path dir.NotDir ts = Sees path IsNoDir ts

-- the fault of a directory that wasn't seen
abbrev pub dir_fault_of : DirStop → Path → Fault
dir_fault_of dir.Call path = fault.Call call.Look path
dir_fault_of dir.NotDir path = fault.NoDir path

-- the look at the parent failed, or its path found no memory
abbrev pub ParentStopped : Path → StandStop → List Entry → Type 0
ParentStopped path (stop.Call kind parent) ts = (kind ≡ call.Look) × (parent ≡ parent_of path) × (ts ≡ [])
ParentStopped path (stop.NotFile other) ts = ⊥
ParentStopped path stop.Memory ts = ts ≡ []

-- the listing failed, or found no memory
abbrev pub ListStopped : Path → StandStop → List Entry → Type 0
ListStopped path (stop.Call kind listed) ts = (kind ≡ call.List) × (listed ≡ path) × (ts ≡ [])
ListStopped path (stop.NotFile other) ts = ⊥
ListStopped path stop.Memory ts = ts ≡ []
