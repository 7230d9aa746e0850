-- Which entries change nothing, and which attach a writer to certain paths alone.
use Rattle.std.specs.Prelude.{◌≡◌, Bool, true, false, List, [], filter}
use Rattle.lr_rules.specs.declared.path.Path.{Path}
use Rattle.lr_host.specs.declared.entry.Entry.{Entry}
use Rattle.lr_host.specs.declared.entry.Entry.TheVariants.{Renames, Makes, Appends, Truncates, Unlinks, MakesDir}
use Rattle.lr_host.specs.World.{Past, ◌▸◌, world}
use Rattle.lr_host.specs.Fits.{Fits}
use Rattle.lr_host.specs.Told.{IsWriters, IsTools, Each}
use Rattle.lr_host.specs.Steps.{is_change}
use Rattle.lr_host.specs.Steady.{AttachesOnly}

-- an entry by which the tool changes a name or bytes; the start of a run, which is_change counts too, is none
abbrev pub is_disk_change : Entry → Bool
is_disk_change (Renames from to) = true
is_disk_change (Makes x mode) = true
is_disk_change (Appends x bytes) = true
is_disk_change (Truncates x) = true
is_disk_change (Unlinks x) = true
is_disk_change (MakesDir x mode) = true
is_disk_change _ = false

-- an entry of the tool that changes a name or bytes
abbrev pub ChangesSomething : Entry → Type 0
ChangesSomething e = is_disk_change e ≡ true

-- one that changes no name and no byte
abbrev pub ChangesNothing : Entry → Type 0
ChangesNothing e = IsTools e × (is_disk_change e ≡ false)

-- none of them changes a name or bytes
abbrev pub ChangeNothing : List Entry → Type 0
ChangeNothing ts = filter is_disk_change ts ≡ []

-- an entry of the tool that changes no name and no byte, and starts no run
abbrev pub IsQuiet : Entry → Type 0
IsQuiet e = IsTools e × (is_change e ≡ false)

abbrev pub AreQuiet : List Entry → Type 0
AreQuiet ts = Each IsQuiet ts

-- each writer since was attached to such a path
pub data AttachedOnlySince (P : Path → Type 0) (p : Past) : Past → Type 0 where
  from_here : AttachedOnlySince P p p
  further : {q : Past} {e : Entry} → AttachedOnlySince P p q → AttachesOnly P e → AttachedOnlySince P p (q ▸ e)

-- Between the two pasts the tool changed nothing of the disk, and each writer was attached to such a path.
pub data Quiet (P : Path → Type 0) (p : Past) : Past → Type 0 where
  here : Quiet P p p
  wrote : {q : Past} {e : Entry} → Quiet P p q → IsWriters e → Fits (world q) e → AttachesOnly P e → Quiet P p (q ▸ e)
  looked : {q : Past} {e : Entry} → Quiet P p q → IsTools e → Fits (world q) e → is_disk_change e ≡ false → Quiet P p (q ▸ e)
