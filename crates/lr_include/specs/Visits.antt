-- What a visit of a path gave, and the entries that show it.
use Rattle.std.specs.Prelude.{◌≡◌, ◌≤◌, ◌<◌, ◌+◌, ◌⊎◌, ℕ, Bool, true, false, List, [], ◌∷◌, length, take, Option, Some, None}
use Rattle.lr_rules.specs.declared.path.Path.{Path}
use Rattle.lr_lex.specs.Items.{Told, items}
use Rattle.lr_host.specs.declared.entry.Entry.{Entry}
use Rattle.lr_host.specs.declared.entry.Entry.TheVariants as entry
use Rattle.lr_host.specs.declared.thing.Kind.TheVariants as kind
use Rattle.lr_host.specs.declared.thing.Seen.{Seen}
use Rattle.lr_host.specs.Listing.{NamesRise, HasListed}
use Rattle.lr_host.specs.Told.{Then, Each}
use Rattle.lr_host.specs.Looks.{Sees, IsDir, IsNothingOrOther}
use Rattle.lr_host.specs.Reading.{IsReadOf, ReadsOf, ReadsAll, IsShortRead}
use Rattle.lr_include.specs.Whole.{whole_items}
use Rattle.lr_include.specs.declared.look.Sight.{Sight}
use Rattle.lr_include.specs.declared.look.Sight.TheVariants as sight
use Rattle.lr_include.specs.declared.part.TextEnd.{TextEnd}
use Rattle.lr_include.specs.declared.part.TextEnd.TheVariants as end
use Rattle.lr_include.specs.declared.visit.Visit.{Visit}
use Rattle.lr_include.specs.declared.visit.Visit.TheVariants as visit

-- ---- looks

-- a regular file was seen that only root and the one that runs the program may write; one that others may, too
abbrev pub IsKeptFile : Option Seen → Type 0
IsKeptFile None = ⊥
IsKeptFile (Some seen) = (seen.kind ≡ kind.File) × (seen.exposed ≡ false)

abbrev pub IsExposedFile : Option Seen → Type 0
IsExposedFile None = ⊥
IsExposedFile (Some seen) = (seen.kind ≡ kind.File) × (seen.exposed ≡ true)

-- one look at the path, which saw this
abbrev pub SeesAs : Path → Sight → List Entry → Type 0
SeesAs x sight.Nothing = Sees x IsNothingOrOther
SeesAs x sight.File = Sees x IsKeptFile
SeesAs x sight.Exposed = Sees x IsExposedFile
SeesAs x sight.Dir = Sees x IsDir

-- ---- bytes

-- A reading broke off: so far it gave fewer bytes than the limit, and wasn't at the end of the file.
abbrev pub ReadsBroken : Path → ℕ → List Entry → Type 0
ReadsBroken x limit ts = (bytes : List ℕ) × (length bytes < limit) × ReadsOf x bytes ts

-- a first part of a reading up to the limit, or all of it
abbrev pub ReadsSome : Path → ℕ → List ℕ → List Entry → Type 0
ReadsSome x limit bytes ts = ((length bytes < limit) × ReadsOf x bytes ts) ⊎ ReadsAll x limit bytes ts

abbrev pub ReadsPartly : Path → ℕ → List Entry → Type 0
ReadsPartly x limit ts = (bytes : List ℕ) × ReadsSome x limit bytes ts

-- one read at this place, of so many bytes at most
abbrev pub ReadsOnce : Path → ℕ → ℕ → List Entry → Type 0
ReadsOnce x from size ts = (piece : List ℕ) × (length piece ≤ size) × (ts ≡ entry.Reads x from piece ∷ [])

-- These bytes were read of a file where there is room for so many: all of them, one more than there is room for, or those
-- before a read that failed.
abbrev pub ReadsPart : Path → ℕ → List ℕ → TextEnd → List Entry → Type 0
ReadsPart x room bytes end.Whole ts = (length bytes ≤ room) × ReadsAll x (room + 1) bytes ts
ReadsPart x room bytes end.TooMany ts = (room < length bytes) × ReadsAll x (room + 1) bytes ts
ReadsPart x room bytes end.Failed ts = (length bytes ≤ room) × ReadsOf x bytes ts

-- what the bytes tell that count, by how their reading ended
abbrev pub told_by : ℕ → List ℕ → TextEnd → List Told
told_by room bytes end.Whole = items bytes
told_by room bytes end.TooMany = whole_items (take room bytes)
told_by room bytes end.Failed = whole_items bytes

abbrev pub IsShortReadOf : Path → Entry → Type 0
IsShortReadOf x t = IsReadOf x t × IsShortRead t

-- The reads of the file, each of 65,536 bytes at most, gave so many bytes, and this is what they tell.
pub record ShowsText (x : Path) (room : ℕ) (told : List Told) (size : ℕ) (how : TextEnd) (ts : List Entry) : Type 0 where
  pub bytes : List ℕ
  pub reads : ReadsPart x room bytes how ts
  pub short : Each IsShortRead ts
  pub size_is : size ≡ length bytes
  pub told_are : told ≡ told_by room bytes how

-- ---- visits

-- what a listing of the directory gave
abbrev pub ShowsNames : Path → Visit → List Entry → Type 0
ShowsNames x (visit.Holds names) ts = NamesRise names × HasListed x names ts
ShowsNames x visit.Unlisted ts = ts ≡ []
ShowsNames x _ ts = ⊥

-- what the reads of the file gave
abbrev pub ShowsBytes : Path → ℕ → Visit → List Entry → Type 0
ShowsBytes x room (visit.Reads told size how) ts = ShowsText x room told size how ts
ShowsBytes x room _ ts = ⊥

abbrev pub ShowsFile : Path → Option ℕ → Visit → List Entry → Type 0
ShowsFile x None v ts = (v ≡ visit.File) × (ts ≡ [])
ShowsFile x (Some room) v ts = ShowsBytes x room v ts

abbrev pub ShowsDir : Path → Bool → Visit → List Entry → Type 0
ShowsDir x false v ts = (v ≡ visit.Dir) × (ts ≡ [])
ShowsDir x true v ts = ShowsNames x v ts

-- The entries show what the visit gave, where a directory is listed or not, and a file is read, of which there is room for
-- so many bytes, or isn't. A file that others may write is never read.
pub data ShowsVisit (x : Path) (lists : Bool) (room : Option ℕ) (v : Visit) (ts : List Entry) : Type 0 where
  look_failed : v ≡ visit.Unseen → ts ≡ [] → ShowsVisit x lists room v ts
  nothing : v ≡ visit.Nothing → Sees x IsNothingOrOther ts → ShowsVisit x lists room v ts
  exposed : v ≡ visit.Exposed → Sees x IsExposedFile ts → ShowsVisit x lists room v ts
  directory : Then (Sees x IsDir) (ShowsDir x lists v) ts → ShowsVisit x lists room v ts
  file : Then (Sees x IsKeptFile) (ShowsFile x room v) ts → ShowsVisit x lists room v ts

-- a file was read
abbrev pub IsRead : Visit → Type 0
IsRead (visit.Reads told size how) = Unit {0}
IsRead _ = ⊥

abbrev pub RoomIsLeft : Option ℕ → Type 0
RoomIsLeft None = ⊥
RoomIsLeft (Some room) = Unit {0}

-- a call failed
abbrev pub HasFailed : Visit → Type 0
HasFailed visit.Unseen = Unit {0}
HasFailed visit.Unlisted = Unit {0}
HasFailed (visit.Reads told size how) = how ≡ end.Failed
HasFailed _ = ⊥

-- A first part of a reading where there is room for so many bytes: reads from the first byte on, each of 65,536 bytes at
-- most, or all of them.
pub record PartText (x : Path) (room : ℕ) (ts : List Entry) : Type 0 where
  pub bytes : List ℕ
  pub reads : ReadsSome x (room + 1) bytes ts
  pub short : Each IsShortRead ts

abbrev pub PartFile : Path → Option ℕ → List Entry → Type 0
PartFile x None ts = ⊥
PartFile x (Some room) ts = PartText x room ts

-- A first part of what a visit leaves: no entry, or a look at a directory, or a look at a file and a first part of its
-- reading.
abbrev pub PartVisit : Path → Option ℕ → List Entry → Type 0
PartVisit x room ts = (ts ≡ []) ⊎ (Sees x IsDir ts ⊎ Then (Sees x IsKeptFile) (PartFile x room) ts)
