-- The clock of a call, put together of the zone's text and what it shows.
use Rattle.std.proofs.Common.{◌≡◌, ◌≤◌, inr, arith, List, [], ◌∷◌, Bool, false, Option, Result, Ok, Err, IfOk, IfErr, IsTrue, ◌<◌, ◌^◌, w64, to_z, of_z, T, refl, sym, subst}
use Rattle.std.specs.Prelude.{◌↔◌, ℤ}
use Rattle.std.proofs.Math.Facts.{to_z-of_z, sfits_lit}
use Rattle.std.proofs.lemmas.Bool.{lt-ltb}
use Rattle.std.specs.Int.Signed.{mag}
use Rattle.lr_rules.specs.declared.clock.Clock.{Clock}
use Rattle.lr_rules.specs.declared.fault.Fault.{Fault}
use Rattle.lr_rules.specs.declared.fault.Fault.TheVariants as fault
use Rattle.lr_rules.specs.declared.fault.ZoneWhy.TheVariants as why
use Rattle.lr_host.specs.declared.entry.Entry.{Entry}
use Rattle.lr_host.specs.declared.journal.Journal.{Journal}
use Rattle.lr_host.specs.Told.{Counts, NoneFell, Left}
use Rattle.lr_host.proofs.Left.{left_as, left_first}
use Rattle.lr_due.specs.declared.tz.Zone.{Zone}
use Rattle.lr_due.specs.declared.tz.Zone.TheVariants.{Utc, Rule, File}
use Rattle.lr_due.specs.declared.zone.ZoneText.{ZoneText}
use Rattle.lr_due.specs.Zone.{IsInRange, IsRefusedZone, IsTable, IsClockIn}
use Rattle.lr_clock.specs.declared.clock.ClockStop.{ClockStop}
use Rattle.lr_clock.specs.declared.clock.ClockStop.TheVariants as stop
use Rattle.lr_report.specs.Reported.{AreReported}
use Rattle.lr_clock.specs.Clock.{ShowsClock, ClockStopped, out_of_range, no_text, refused, HasClock, IsClockFault, is_refused}
use Rattle.lr_clock.specs.Zone.{ShowsZone, ZoneStopped, LacksZoneMemory, at_file, IsZoneText}

-- a number of the type is what its bits say
pub own_seconds : (z : ℤ) → mag z < 2 ^ 63 → to_z w64 (of_z w64 z) ≡ z
own_seconds z fits = to_z-of_z {w = w64} (sfits_lit {w = w64} (subst T (sym (lt-ltb (mag z) (2 ^ 63) fits)) tt))

-- the test said no
pub is_out : (s seconds : ℤ) (b : Bool) → s ≡ seconds → (IsTrue b ↔ IsInRange s) → b ≡ false → ¬ (IsInRange seconds)
is_out s seconds b same tells not_so = λ range. let so = tells.1 (subst IsInRange (sym same) range) in cc

pub range_told : (zone : Zone) (seconds : ℤ) (o : Option Journal) → ¬ (IsInRange seconds) → Left (ClockStopped zone seconds (stop.Fault fault.Clock)) o o
range_told zone seconds o out = left_first (ClockStopped zone seconds (stop.Fault fault.Clock)) o (out_of_range out refl refl)

-- the zone has no text
pub text_stopped : (zone : Zone) (seconds : ℤ) (said : ClockStop) {o n : Option Journal} → IsInRange seconds → Left (ZoneStopped zone said) o n → Left (ClockStopped zone seconds said) o n
text_stopped zone seconds (stop.Fault f) range l = left_as l (λ ts h. no_text range h)
text_stopped zone seconds stop.Memory range l = l

-- behind the text
pub clock_told : (zone : Zone) (seconds : ℤ) (t : ZoneText) (r : Result Clock ClockStop) (o n : Option Journal) → IsInRange seconds → Left (ShowsZone zone t) o n → IfOk r (IsClockIn t seconds) → IfOk r (λ clock. Left (ShowsClock zone seconds clock) o n)
clock_told zone seconds t (Ok clock) o n range l is = left_as l (λ ts h. record { text = t; in_range = range; shows = h; clock_is = is })
clock_told zone seconds t (Err said) o n range l is = tt

-- there was no memory for the table of a file's bytes
table_lacks : (zone : Zone) (t : ZoneText) (ts : List Entry) → IsTable t → ShowsZone zone t ts → LacksZoneMemory zone ts
table_lacks Utc t ts is h = absurd (subst IsTable h.0 is)
table_lacks (Rule rule) t ts is h = absurd (subst IsTable h.0 is)
table_lacks (File path) t ts is h = let read = h.2 in at_file path refl (record { front = read.front; back = read.back; joined = read.joined; first = read.first; second = (h.0, inr read.second.1) })

pub clock_stopped : (zone : Zone) (seconds : ℤ) (t : ZoneText) (r : Result Clock ClockStop) (o n : Option Journal) → IsInRange seconds → Left (ShowsZone zone t) o n → ((f : Fault) → r ≡ Err (stop.Fault f) → (f ≡ fault.Zone why.Refused) × IsRefusedZone t) → (r ≡ Err stop.Memory → IsTable t)
    → IfErr r (λ said. Left (ClockStopped zone seconds said) o n)
clock_stopped zone seconds t (Ok clock) o n range l bad table = tt
clock_stopped zone seconds t (Err (stop.Fault f)) o n range l bad table = left_as l (λ ts h. refused t range (bad f refl).0 (bad f refl).1 h)
clock_stopped zone seconds t (Err stop.Memory) o n range l bad table = left_as l (λ ts h. table_lacks zone t ts (table refl) h)

pub has_clock : (zone : Zone) (seconds : ℤ) (t : ZoneText) (r : Result Clock ClockStop) → IsInRange seconds → IsZoneText zone t → IfOk r (λ clock. ¬ (IsRefusedZone t)) → IfOk r (IsClockIn t seconds) → IfOk r (HasClock zone seconds)
has_clock zone seconds t (Ok clock) range of_zone good is = record { text = t; in_range = range; text_is = of_zone; not_refused = good; clock_is = is }
has_clock zone seconds t (Err said) range of_zone good is = tt

pub refused_fault : (zone : Zone) (seconds : ℤ) (t : ZoneText) (f : Fault) (j k : Counts) → IsInRange seconds → IsZoneText zone t → (f ≡ fault.Zone why.Refused) × IsRefusedZone t → NoneFell j k → IsClockFault zone seconds f × AreReported (f ∷ []) j k
refused_fault zone seconds t f j k range of_zone bad le = (
  is_refused t range of_zone bad.0 bad.1,
  subst (λ (g : Fault). AreReported (g ∷ []) j k) (sym bad.0) (record {
    calls = (let more : j.faults ≤ k.faults = le.0 in omega (arith, more));
    scripts = (let more : j.bad_ends ≤ k.bad_ends = le.1 in omega (arith, more));
    no_out = ((λ h. h), tt);
  }),
)
