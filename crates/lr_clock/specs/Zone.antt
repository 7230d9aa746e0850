-- What asking for the text of a zone leaves, by its answer.
use Rattle.std.specs.Prelude.{◌≡◌, ◌≢◌, ◌⊎◌, ◌≤◌, ◌<◌, ℕ, List, [], length, Option, Some, None}
use Rattle.lr_rules.specs.declared.path.Path.{Path}
use Rattle.lr_rules.specs.declared.fault.CallKind.TheVariants as call
use Rattle.lr_rules.specs.declared.fault.Fault.{Fault}
use Rattle.lr_rules.specs.declared.fault.Fault.TheVariants as fault
use Rattle.lr_rules.specs.declared.fault.ZoneWhy.TheVariants as why
use Rattle.lr_host.specs.declared.thing.Kind.TheVariants as kind
use Rattle.lr_host.specs.declared.thing.Seen.{Seen}
use Rattle.lr_host.specs.declared.entry.Entry.{Entry}
use Rattle.lr_host.specs.Told.{Then}
use Rattle.lr_host.specs.Reading.{ReadsAll}
use Rattle.lr_host.specs.Looks.{Sees, IsFile}
use Rattle.lr_include.specs.Visits.{ReadsBroken, ReadsPartly}
use Rattle.lr_due.specs.declared.tz.Zone.{Zone}
use Rattle.lr_due.specs.declared.tz.Zone.TheVariants.{Utc, Rule, File}
use Rattle.lr_due.specs.declared.zone.ZoneText.{ZoneText}
use Rattle.lr_due.specs.declared.zone.ZoneText.TheVariants as text
use Rattle.lr_clock.specs.declared.clock.ClockStop.{ClockStop}
use Rattle.lr_clock.specs.declared.clock.ClockStop.TheVariants as clock_stop
use Rattle.lr_clock.specs.declared.zone.ZoneFileStop.{ZoneFileStop}
use Rattle.lr_clock.specs.declared.zone.ZoneFileStop.TheVariants as stop

-- nothing was seen, or something else than a regular file
abbrev pub IsNotFile : Option Seen → Type 0
IsNotFile None = Unit {0}
IsNotFile (Some seen) = seen.kind ≢ kind.File

-- these are all bytes of the file, and not too many
abbrev pub GivesBytes : Path → List ℕ → List Entry → Type 0
GivesBytes path bytes ts = (length bytes ≤ 1048576) × ReadsAll path 1048577 bytes ts

-- its bytes aren't had: there are more, a read failed before it was known that there are no more, or there was no memory
abbrev pub ReadStopped : Path → ZoneFileStop → List Entry → Type 0
ReadStopped path stop.TooBig ts = (bytes : List ℕ) × (1048576 < length bytes) × ReadsAll path 1048577 bytes ts
ReadStopped path stop.Read ts = ReadsBroken path 1048577 ts
ReadStopped path stop.Memory ts = ReadsPartly path 1048577 ts
ReadStopped path _ ts = ⊥

-- the file wasn't seen as one, the look failed, or its bytes aren't had
abbrev pub FileStopped : Path → ZoneFileStop → List Entry → Type 0
FileStopped path stop.NotFile ts = Sees path IsNotFile ts
FileStopped path stop.Look ts = ts ≡ []
FileStopped path stop ts = Then (Sees path IsFile) (ReadStopped path stop) ts

-- The zone has this text, and the entries show it: UTC and a rule need no call, a file was seen as one and read whole.
abbrev pub ShowsZone : Zone → ZoneText → List Entry → Type 0
ShowsZone Utc t ts = (t ≡ text.Utc) × (ts ≡ [])
ShowsZone (Rule rule) t ts = (t ≡ text.Rule rule) × (ts ≡ [])
ShowsZone (File path) t ts = (bytes : List ℕ) × (t ≡ text.Bytes bytes) × Then (Sees path IsFile) (GivesBytes path bytes) ts

-- The zone has none, as the fault tells: its file wasn't seen as one, has too many bytes, or the look at it or a read of it failed.
pub data LacksText (zone : Zone) (f : Fault) (ts : List Entry) : Type 0 where
  not_file : (path : Path) → zone ≡ File path → f ≡ fault.Zone why.NotFile → Sees path IsNotFile ts → LacksText zone f ts
  too_big : (path : Path) (bytes : List ℕ) → zone ≡ File path → f ≡ fault.Zone why.TooBig → 1048576 < length bytes
      → Then (Sees path IsFile) (ReadsAll path 1048577 bytes) ts → LacksText zone f ts
  look_failed : (path : Path) → zone ≡ File path → f ≡ fault.Call call.Look path → ts ≡ [] → LacksText zone f ts
  read_failed : (path : Path) → zone ≡ File path → f ≡ fault.Call call.Read path
      → Then (Sees path IsFile) (ReadsBroken path 1048577) ts → LacksText zone f ts

-- Where there was no memory for it: nothing was called, or its file was seen as one, and a first part of it was read, or all.
pub data LacksZoneMemory (zone : Zone) (ts : List Entry) : Type 0 where
  at_first : ts ≡ [] → LacksZoneMemory zone ts
  at_file : (path : Path) → zone ≡ File path → Then (Sees path IsFile) (ReadsPartly path 1048577) ts → LacksZoneMemory zone ts

abbrev pub ZoneStopped : Zone → ClockStop → List Entry → Type 0
ZoneStopped zone (clock_stop.Fault f) ts = LacksText zone f ts
ZoneStopped zone clock_stop.Memory ts = LacksZoneMemory zone ts

-- the fault of a file that gives no text, where it isn't for want of memory
abbrev pub file_stop : ZoneFileStop → Path → ClockStop
file_stop stop.NotFile path = clock_stop.Fault (fault.Zone why.NotFile)
file_stop stop.TooBig path = clock_stop.Fault (fault.Zone why.TooBig)
file_stop stop.Look path = clock_stop.Fault (fault.Call call.Look path)
file_stop stop.Read path = clock_stop.Fault (fault.Call call.Read path)
file_stop stop.Memory path = clock_stop.Memory

-- ---- without entries

-- the text is that of the zone; of a file it is some bytes
abbrev pub IsZoneText : Zone → ZoneText → Type 0
IsZoneText Utc t = t ≡ text.Utc
IsZoneText (Rule rule) t = t ≡ text.Rule rule
IsZoneText (File path) t = (bytes : List ℕ) × (t ≡ text.Bytes bytes)

-- it has none only where it is a file: no regular one, too big, or the look or a read of it failed
abbrev pub IsFileFault : Path → Fault → Type 0
IsFileFault path (fault.Zone why.NotFile) = Unit {0}
IsFileFault path (fault.Zone why.TooBig) = Unit {0}
IsFileFault path (fault.Call kind of) = ((kind ≡ call.Look) ⊎ (kind ≡ call.Read)) × (of ≡ path)
IsFileFault path _ = ⊥

abbrev pub IsTextFault : Zone → Fault → Type 0
IsTextFault Utc f = ⊥
IsTextFault (Rule rule) f = ⊥
IsTextFault (File path) f = IsFileFault path f
