-- Where a rotation breaks off, and why.
use Rattle.std.specs.Prelude.{◌≡◌, ◌⊎◌, ℕ, List, [], ◌∷◌, ◌++◌, length, Option, Some, None}
use Rattle.lr_rules.specs.declared.path.Path.{Path}
use Rattle.lr_rules.specs.declared.fault.CallKind.TheVariants as call
use Rattle.lr_host.specs.declared.entry.Entry.{Entry}
use Rattle.lr_host.specs.declared.entry.Entry.TheVariants.{Renames}
use Rattle.lr_host.specs.Told.{Counts, Rose, Then, Are}
use Rattle.lr_host.specs.Lists.{IsIn}
use Rattle.lr_scripts.specs.declared.command.Bad.{Bad}
use Rattle.lr_scripts.specs.declared.removal.Removal.{Removal}
use Rattle.lr_scripts.specs.Removals.{RemovalRefused, RemovalCause}
use Rattle.lr_chain.specs.declared.chain.ChainStop.{ChainStop}
use Rattle.lr_chain.specs.declared.chain.ChainStop.TheVariants as stop
use Rattle.lr_chain.specs.declared.directory.DirStop.TheVariants as unmade
use Rattle.lr_chain.specs.Directory.{DirStopped}
use Rattle.lr_chain.specs.Ready.{BehindDir, removals_of}

-- The steps before the refused one were made, and that one was refused: its entry stands or not.
pub record StopsAtStep (steps : List Entry) (refused : Entry) (ts : List Entry) : Type 0 where
  pub before : List Entry
  pub after : List Entry
  pub steps_are : steps ≡ before ++ refused ∷ after
  pub made : (ts ≡ before) ⊎ (ts ≡ before ++ refused ∷ [])

-- one of the steps, a rename from this path, was refused so
pub record StopsFrom (steps : List Entry) (from : Path) (ts : List Entry) : Type 0 where
  pub to : Path
  pub stops : StopsAtStep steps (Renames from to) ts

-- The directory wasn't made, for the reason that is told.
abbrev pub DirRefused : Option (Path × Option ℕ) → ChainStop → List Entry → Type 0
DirRefused (Some (dir, mode)) (stop.Call call.MakeDir path) ts = (path.now ≡ dir) × DirStopped dir mode unmade.Make ts
DirRefused (Some (dir, mode)) (stop.Call call.Look path) ts = (path.now ≡ dir) × DirStopped dir mode unmade.Look ts
DirRefused (Some (dir, mode)) (stop.NotFile path) ts = (path.now ≡ dir) × DirStopped dir mode unmade.NotDir ts
DirRefused _ _ ts = ⊥

-- One of the steps was refused, behind the directory; or that was.
abbrev pub ChainStopped : Option (Path × Option ℕ) → List Entry → ChainStop → List Entry → Type 0
ChainStopped dir steps (stop.Call call.Rename path) ts = BehindDir dir (StopsFrom steps path.now) ts
ChainStopped dir steps why ts = DirRefused dir why ts

-- one of the steps is a rename from this path
abbrev pub IsFrom : List Entry → Path → Type 0
IsFrom steps path = (to : Path) × IsIn (Renames path to) steps

-- the path is that of the directory
abbrev pub IsOfDir : Option (Path × Option ℕ) → Path → Type 0
IsOfDir None path = ⊥
IsOfDir (Some (dir, mode)) path = path ≡ dir

-- The making of the directory failed, or the look at it, and faults rose; or something else has its path.
abbrev pub DirRefusedCause : Option (Path × Option ℕ) → ChainStop → Counts → Counts → Type 0
DirRefusedCause dir (stop.Call kind path) before now = ((kind ≡ call.MakeDir) ⊎ (kind ≡ call.Look)) × IsOfDir dir path.now
    × Rose before.faults now.faults
DirRefusedCause dir (stop.NotFile path) before now = IsOfDir dir path.now

-- A rename failed, and faults rose; it is one of the steps. Or the directory has the cause.
abbrev pub ChainCause : Option (Path × Option ℕ) → List Entry → ChainStop → Counts → Counts → Type 0
ChainCause dir steps (stop.Call call.Rename path) before now = IsFrom steps path.now × Rose before.faults now.faults
ChainCause dir steps why before now = DirRefusedCause dir why before now

-- The removal at this place of the list was refused: the removals before it were made, and it left what it left.
pub record RetireStopped (list : List Removal) (place : ℕ) (why : Bad) (ts : List Entry) : Type 0 where
  pub before : List Removal
  pub refused : Removal
  pub after : List Removal
  pub list_is : list ≡ before ++ refused ∷ after
  pub place_is : place ≡ length before
  pub left : Then (Are (removals_of before)) (RemovalRefused refused why) ts

-- the removal at this place of the list has the cause
pub record RetireCause (list : List Removal) (place : ℕ) (why : Bad) (before now : Counts) : Type 0 where
  pub first : List Removal
  pub refused : Removal
  pub after : List Removal
  pub list_is : list ≡ first ++ refused ∷ after
  pub place_is : place ≡ length first
  pub cause : RemovalCause refused why before now
