-- What asking for the text of a zone leaves.
use Rattle.std.proofs.Common.{◌≡◌, ◌≤◌, ◌<◌, ℕ, List, length, refl, sym, ap, ◌∙◌, subst, Option, Some, Result, Ok, Err, IfOk, IfErr}
use Rattle.lr_rules.specs.declared.path.Path.{Path}
use Rattle.lr_host.specs.declared.thing.Seen.{Seen}
use Rattle.lr_host.specs.declared.thing.Kind.{Kind}
use Rattle.lr_host.specs.declared.thing.Kind.TheVariants as kind
use Rattle.lr_host.specs.declared.entry.Entry.{Entry}
use Rattle.lr_host.specs.declared.journal.Journal.{Journal}
use Rattle.lr_host.specs.Told.{Left, Then}
use Rattle.lr_host.specs.Reading.{ReadsAll}
use Rattle.lr_host.specs.Looks.{Sees, IsFile}
use Rattle.lr_host.proofs.Left.{left_first, left_as, left_both}
use Rattle.lr_due.specs.declared.tz.Zone.{Zone}
use Rattle.lr_due.specs.declared.tz.Zone.TheVariants.{Utc, Rule, File}
use Rattle.lr_due.specs.declared.zone.ZoneText.{ZoneText}
use Rattle.lr_due.specs.declared.zone.ZoneText.TheVariants as text
use Rattle.lr_clock.specs.declared.clock.ClockStop.{ClockStop}
use Rattle.lr_clock.specs.declared.clock.ClockStop.TheVariants as clock_stop
use Rattle.lr_clock.specs.declared.zone.ZoneFileStop.{ZoneFileStop}
use Rattle.lr_clock.specs.declared.zone.ZoneFileStop.TheVariants as stop
use Rattle.lr_clock.specs.Zone.{IsNotFile, GivesBytes, ReadStopped, FileStopped, ShowsZone, ZoneStopped, not_file, too_big, look_failed, read_failed, LacksZoneMemory, at_first, at_file, file_stop}

-- a directory or another thing is no regular file
pub no_file : (k : Kind) → (k ≡ kind.File → ⊥) → (seen : Seen) → seen.kind ≡ k → IsNotFile (Some seen)
no_file k other seen e = λ f. other (sym e ∙ f)

pub not_dir : kind.Dir ≡ kind.File → ⊥
not_dir e = cc

pub not_other : kind.Other ≡ kind.File → ⊥
not_other e = cc

-- all bytes of a file, or too many
pub gives : (path : Path) (bytes : List ℕ) {o n : Option Journal} → length bytes ≤ 1048576 → Left (ReadsAll path 1048577 bytes) o n → Left (GivesBytes path bytes) o n
gives path bytes le l = left_as l (λ ts r. (le, r))

pub read_too_big : (path : Path) (bytes : List ℕ) {o n : Option Journal} → 1048576 < length bytes → Left (ReadsAll path 1048577 bytes) o n → Left (ReadStopped path stop.TooBig) o n
read_too_big path bytes lt l = left_as l (λ ts r. (bytes, lt, r))

-- behind the look that saw the file
pub shows : (path : Path) (bytes : List ℕ) {o m n : Option Journal} → Left (Sees path IsFile) o m → Left (GivesBytes path bytes) m n → Left (ShowsZone (File path) (text.Bytes bytes)) o n
shows path bytes a b = left_as (left_both a b) (λ ts t. (bytes, refl, t))

stopped_read : (path : Path) (why : ZoneFileStop) (ts : List Entry) → Then (Sees path IsFile) (ReadStopped path why) ts → FileStopped path why ts
stopped_read path stop.NotFile ts t = absurd t.second
stopped_read path stop.TooBig ts t = t
stopped_read path stop.Look ts t = absurd t.second
stopped_read path stop.Read ts t = t
stopped_read path stop.Memory ts t = t

pub stops : (path : Path) (why : ZoneFileStop) {o m n : Option Journal} → Left (Sees path IsFile) o m → Left (ReadStopped path why) m n → Left (FileStopped path why) o n
stops path why a b = left_as (left_both a b) (stopped_read path why)

-- the same with the fault that tells it
file_lacks : (path : Path) (why : ZoneFileStop) (ts : List Entry) → FileStopped path why ts → ZoneStopped (File path) (file_stop why path) ts
file_lacks path stop.NotFile ts s = not_file path refl refl s
file_lacks path stop.TooBig ts t = too_big path t.second.0 refl refl t.second.1 (record { front = t.front; back = t.back; joined = t.joined; first = t.first; second = t.second.2 })
file_lacks path stop.Look ts none = look_failed path refl refl none
file_lacks path stop.Read ts t = read_failed path refl refl t
file_lacks path stop.Memory ts t = at_file path refl t

pub file_told : (path name : Path) (why : ZoneFileStop) (said : ClockStop) {o n : Option Journal} → name ≡ path → said ≡ file_stop why name → Left (FileStopped path why) o n → Left (ZoneStopped (File path) said) o n
file_told path name why said {o = o} {n = n} named is l = subst (λ (s : ClockStop). Left (ZoneStopped (File path) s) o n) (sym (is ∙ ap (file_stop why) named)) (left_as l (file_lacks path why))

-- UTC and a rule need no call
pub utc_shown : (zone : Zone) (o : Option Journal) → zone ≡ Utc → Left (ShowsZone zone text.Utc) o o
utc_shown zone o is = subst (λ (z : Zone). Left (ShowsZone z text.Utc) o o) (sym is) (left_first (ShowsZone Utc text.Utc) o (refl, refl))

rule_told : (rule : List ℕ) (r : Result ZoneText ClockStop) (o : Option Journal) → IfOk r (λ t. t ≡ text.Rule rule) → IfOk r (λ t. Left (ShowsZone (Rule rule) t) o o)
rule_told rule (Ok t) o e = left_first (ShowsZone (Rule rule) t) o (e, refl)
rule_told rule (Err why) o e = tt

rule_memory : (zone : Zone) (why : ClockStop) (o : Option Journal) → why ≡ clock_stop.Memory → Left (ZoneStopped zone why) o o
rule_memory zone why o e = subst (λ (s : ClockStop). Left (ZoneStopped zone s) o o) (sym e) (left_first (LacksZoneMemory zone) o (at_first refl))

pub rule_stopped : (zone : Zone) (r : Result ZoneText ClockStop) (o : Option Journal) → IfErr r (λ why. why ≡ clock_stop.Memory) → IfErr r (λ why. Left (ZoneStopped zone why) o o)
rule_stopped zone (Ok t) o e = tt
rule_stopped zone (Err why) o e = rule_memory zone why o e

pub memory_first : (zone : Zone) (o : Option Journal) → Left (LacksZoneMemory zone) o o
memory_first zone o = left_first (LacksZoneMemory zone) o (at_first refl)

-- the same of a zone that is that rule, or that file
pub rule_shown : (zone : Zone) (rule : List ℕ) (r : Result ZoneText ClockStop) (o : Option Journal) → zone ≡ Rule rule → IfOk r (λ t. t ≡ text.Rule rule) → IfOk r (λ t. Left (ShowsZone zone t) o o)
rule_shown zone rule r o is e = subst (λ (z : Zone). IfOk r (λ t. Left (ShowsZone z t) o o)) (sym is) (rule_told rule r o e)

pub file_stopped : (zone : Zone) (path : Path) (r : Result ZoneText ClockStop) (o n : Option Journal) → zone ≡ File path → IfErr r (λ why. Left (ZoneStopped (File path) why) o n) → IfErr r (λ why. Left (ZoneStopped zone why) o n)
file_stopped zone path r o n is e = subst (λ (z : Zone). IfErr r (λ why. Left (ZoneStopped z why) o n)) (sym is) e
