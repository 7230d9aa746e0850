-- The state file stays whole over a call: at each moment of it, and after each cut that the machine may make then.
use Rattle.std.specs.Prelude.{◌≡◌, ◌≢◌, ◌⊎◌, ◌≤◌, ℕ, false, List, [], ◌∷◌, length, reverse, Option, Some, None}
use Rattle.std.specs.List.{list_any}
use Rattle.lr_rules.specs.declared.path.Path.{Path}
use Rattle.lr_rules.specs.StatePath.{state_part}
use Rattle.lr_host.specs.declared.thing.Thing.{Thing}
use Rattle.lr_host.specs.declared.thing.Thing.TheVariants as thing
use Rattle.lr_host.specs.declared.entry.Entry.{Entry}
use Rattle.lr_host.specs.declared.entry.Entry.TheVariants.{Renames, Makes, Unlinks, MakesDir}
use Rattle.lr_host.specs.declared.journal.Journal.{Journal}
use Rattle.lr_host.specs.Fits.{Fits}
use Rattle.lr_host.specs.Lists.{IsIn}
use Rattle.lr_host.specs.Opening.{IsJournal}
use Rattle.lr_host.specs.Quiet.{AttachedOnlySince}
use Rattle.lr_host.specs.Safe.{IsMachines, IsPrefix}
use Rattle.lr_host.specs.Told.{Made}
use Rattle.lr_host.specs.World.{Past, ◌▸◌, past, world, Names, names, in_list, paths_in}

-- ---- what a call begins with

-- The state's file is synced whole, and no change of names that a cut may undo has the state's path.
pub record IsSettled (state : Path) (p : Past) : Type 0 where
  pub synced : (g : ℕ) → names (world p) state ≡ thing.File g → length ((world p).files g).bytes ≤ ((world p).files g).synced
  pub durable : list_any (λ c. in_list (paths_in c) state) (world p).pending ≡ false

-- No writer holds the state's file as the call begins, and in the call none is attached to the state's path or to that of its part
-- file.
pub record WritersSpareState (state : Path) (before after : Past) : Type 0 where
  pub held : (v g : ℕ) → (world before).holds v ≡ Some g → names (world before) state ≢ thing.File g
  pub attached : AttachedOnlySince (λ x. (x ≢ state) × (x ≢ state_part state)) before after

-- ---- what the tool changed

-- the paths whose names the entry of the tool changes
abbrev pub renamed_paths : Entry → List Path
renamed_paths (Renames from to) = from ∷ to ∷ []
renamed_paths (Makes x mode) = x ∷ []
renamed_paths (Unlinks x) = x ∷ []
renamed_paths (MakesDir x mode) = x ∷ []
renamed_paths _ = []

-- The last change that the tool made of this path's name, behind the first past, left it naming this; so many files were drawn by
-- then.
pub data LeftAs (before : Past) (x : Path) (left : Thing) (drawn : ℕ) : Past → Type 0 where
  by_last : {q : Past} {e : Entry} → IsPrefix before q → IsIn x (renamed_paths e) → names (world (q ▸ e)) x ≡ left
      → (world (q ▸ e)).drawn ≡ drawn → LeftAs before x left drawn (q ▸ e)
  still : {q : Past} {e : Entry} → LeftAs before x left drawn q → (IsIn x (renamed_paths e) → ⊥)
      → LeftAs before x left drawn (q ▸ e)

-- The path names what it was left with; where that is nothing, it may name a file that was made since so many were drawn.
abbrev pub StandsAs : ℕ → Thing → Thing → Type 0
StandsAs drawn left now = (now ≡ left) ⊎ ((left ≡ thing.Nothing) × ((g : ℕ) × (now ≡ thing.File g) × (drawn ≤ g)))

-- Under these names all changes of names are applied that the tool made between the two pasts: each path that it changed names what
-- the last of them left it with, or, where that is nothing, maybe a file that a writer made behind that change.
abbrev pub AreApplied : Past → Past → Names → Type 0
AreApplied before until n = (x : Path) (left : Thing) (drawn : ℕ) → LeftAs before x left drawn until → StandsAs drawn left (n x)

-- ---- the state

-- In the later world the state's path names what it named, and where that is a file, this has the same bytes.
pub record IsAsBefore (state : Path) (before now : Past) : Type 0 where
  pub named : names (world now) state ≡ names (world before) state
  pub same : (g : ℕ) → names (world before) state ≡ thing.File g → ((world now).files g).bytes ≡ ((world before).files g).bytes

-- In the world of `now` the state's path names a file whose bytes are a new text, whole. It got that path by a rename up to the
-- moment p, and all changes of names that the tool made up to and with this rename are applied.
pub record IsRenewed (state : Path) (IsText : List ℕ → Type 0) (before p now : Past) : Type 0 where
  -- just before that rename
  pub turning : Past
  pub since : IsPrefix before turning
  pub until : IsPrefix (turning ▸ Renames (state_part state) state) p
  pub file : ℕ
  pub named : names (world now) state ≡ thing.File file
  pub text : IsText ((world now).files file).bytes
  pub applied : AreApplied before (turning ▸ Renames (state_part state) state) (names (world now))

-- The state of `now`, the moment p or a cut then, is the old one or a new one, whole.
abbrev pub IsOldOrNew : Path → (List ℕ → Type 0) → Past → Past → Past → Type 0
IsOldOrNew state IsText before p now = IsAsBefore state before now ⊎ IsRenewed state IsText before p now

-- So it is at this moment, and after each cut that is allowed then.
pub record IsWholeAt (state : Path) (IsText : List ℕ → Type 0) (before p : Past) : Type 0 where
  pub now : IsOldOrNew state IsText before p p
  pub cut : (c : Entry) → IsMachines c → Fits (world p) c → IsOldOrNew state IsText before p (p ▸ c)

-- So it is at each moment of a call. A new text is one that follows from the entries that the tool left in it.
pub record StaysWhole (state : Path) (IsText : List Entry → List ℕ → Type 0) (before after : Past) : Type 0 where
  -- what the tool left, the newest first
  pub entries : List Entry
  pub made : Made before entries after
  pub each : (p : Past) → IsPrefix before p → IsPrefix p after → IsWholeAt state (IsText (reverse entries)) before p

-- The promise over a call: where the journal is told, and the state is settled as the call begins, it stays whole, if writers spare
-- it.
abbrev pub KeepsWhole : Path → (List Entry → List ℕ → Type 0) → Option Journal → Option Journal → Type 0
KeepsWhole state IsText (Some j) (Some k) = IsJournal (past j) → IsSettled state (past j)
    → WritersSpareState state (past j) (past k)
    → StaysWhole state IsText (past j) (past k)
KeepsWhole state IsText None None = Unit {0}
KeepsWhole state IsText _ _ = ⊥
