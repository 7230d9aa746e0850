-- What holds of each look and each read holds of all that a clock leaves, or a call that found none.
use Rattle.std.proofs.Common.{◌≡◌, ℕ, List, [], ◌∷◌, Option, refl, sym, subst}
use Rattle.std.specs.Prelude.{ℤ}
use Rattle.lr_rules.specs.declared.clock.Clock.{Clock}
use Rattle.lr_rules.specs.declared.fault.Fault.{Fault}
use Rattle.lr_rules.specs.declared.path.Path.{Path}
use Rattle.lr_host.specs.declared.entry.Entry.{Entry}
use Rattle.lr_host.specs.declared.entry.Entry.TheVariants as entry
use Rattle.lr_host.specs.declared.thing.Seen.{Seen}
use Rattle.lr_host.specs.Told.{Then, Each}
use Rattle.lr_host.specs.Reading.{IsReadOf, ReadsAll}
use Rattle.lr_host.specs.Looks.{IsFile, Sees}
use Rattle.lr_host.specs.Quiet.{AreQuiet, IsQuiet}
use Rattle.lr_host.proofs.Each.{each_append}
use Rattle.lr_host.proofs.Reading.{reads_only}
use Rattle.lr_due.specs.declared.tz.Zone.{Zone}
use Rattle.lr_due.specs.declared.tz.Zone.TheVariants.{Utc, Rule, File}
use Rattle.lr_due.specs.declared.zone.ZoneText.{ZoneText}
use Rattle.lr_include.specs.Visits.{ReadsBroken, ReadsPartly}
use Rattle.lr_include.proofs.AllQuiet.{some_only}
use Rattle.lr_clock.specs.declared.clock.ClockStop.{ClockStop}
use Rattle.lr_clock.specs.declared.clock.ClockStop.TheVariants as stop
use Rattle.lr_clock.specs.Clock.{ShowsClock, LacksClock, out_of_range, no_text, refused, ClockStopped}
use Rattle.lr_clock.specs.Zone.{LacksZoneMemory, ShowsZone, LacksText, not_file, too_big, look_failed, read_failed, at_first, at_file}

module _ (P : Entry → Type 0) (look : (x : Path) (seen : Option Seen) → P (entry.Look x seen)) (reads : (x : Path) (place : ℕ) (piece : List ℕ) → P (entry.Reads x place piece)) where
  only_reads_so : (x : Path) (ts : List Entry) → Each (IsReadOf x) ts → Each P ts
  only_reads_so x [] each = tt
  only_reads_so x (entry.Reads y from piece ∷ ts) each = (reads y from piece, only_reads_so x ts each.1)
  only_reads_so x (_ ∷ ts) each = absurd each.0

  pub then_so : (Q R : List Entry → Type 0) (ts : List Entry) → ((us : List Entry) → Q us → Each P us) → ((us : List Entry) → R us → Each P us) → Then Q R ts → Each P ts
  then_so Q R ts f g t = subst (Each P) (sym t.joined) (each_append P t.front t.back (f t.front t.first) (g t.back t.second))

  sees_so : (x : Path) (Q : Option Seen → Type 0) (ts : List Entry) → Sees x Q ts → Each P ts
  sees_so x Q ts s = subst (Each P) (sym s.look) (look x s.seen, tt)

  none_so : (ts : List Entry) → ts ≡ [] → Each P ts
  none_so ts e = subst (Each P) (sym e) tt

  whole_so : (path : Path) (bytes : List ℕ) (ts : List Entry) → Then (Sees path IsFile) (ReadsAll path 1048577 bytes) ts → Each P ts
  whole_so path bytes ts t = then_so _ _ ts (λ us s. sees_so path IsFile us s) (λ us g. only_reads_so path us (reads_only path 1048577 bytes us g)) t

  broken_so : (path : Path) (ts : List Entry) → Then (Sees path IsFile) (ReadsBroken path 1048577) ts → Each P ts
  broken_so path ts t = then_so _ _ ts (λ us s. sees_so path IsFile us s) (λ us g. only_reads_so path us g.2.only) t

  part_so : (path : Path) (ts : List Entry) → Then (Sees path IsFile) (ReadsPartly path 1048577) ts → Each P ts
  part_so path ts t = then_so _ _ ts (λ us s. sees_so path IsFile us s) (λ us g. only_reads_so path us (some_only path 1048577 g.0 us g.1)) t

  -- a clock's zone, or why there was none
  pub zone_so : (z : Zone) (text : ZoneText) (ts : List Entry) → ShowsZone z text ts → Each P ts
  zone_so Utc text ts h = none_so ts h.1
  zone_so (Rule rule) text ts h = none_so ts h.1
  zone_so (File path) text ts h = then_so _ _ ts (λ us s. sees_so path IsFile us s) (λ us g. only_reads_so path us (reads_only path 1048577 h.0 us g.1)) h.2

  text_so : (zone : Zone) (f : Fault) (ts : List Entry) → LacksText zone f ts → Each P ts
  text_so zone f ts (not_file path z e s) = sees_so path _ ts s
  text_so zone f ts (too_big path bytes z e n t) = whole_so path bytes ts t
  text_so zone f ts (look_failed path z e none) = none_so ts none
  text_so zone f ts (read_failed path z e t) = broken_so path ts t

  pub lost_clock_so : (zone : Zone) (seconds : ℤ) (f : Fault) (ts : List Entry) → LacksClock zone seconds f ts → Each P ts
  lost_clock_so zone seconds f ts (out_of_range out e none) = none_so ts none
  lost_clock_so zone seconds f ts (no_text range h) = text_so zone f ts h
  lost_clock_so zone seconds f ts (refused text range e r h) = zone_so zone text ts h

  pub lost_zone_so : (zone : Zone) (ts : List Entry) → LacksZoneMemory zone ts → Each P ts
  lost_zone_so zone ts (at_first none) = none_so ts none
  lost_zone_so zone ts (at_file path z t) = part_so path ts t

  pub stop_so : (zone : Zone) (seconds : ℤ) (why : ClockStop) (ts : List Entry) → ClockStopped zone seconds why ts → Each P ts
  stop_so zone seconds (stop.Fault f) ts h = lost_clock_so zone seconds f ts h
  stop_so zone seconds stop.Memory ts h = lost_zone_so zone ts h

pub clock_quiet : (zone : Zone) (seconds : ℤ) (clock : Clock) (ts : List Entry) → ShowsClock zone seconds clock ts → AreQuiet ts
clock_quiet zone seconds clock ts h = zone_so IsQuiet (λ x seen. (tt, refl)) (λ x place piece. (tt, refl)) zone h.text ts h.shows

pub lacks_quiet : (zone : Zone) (seconds : ℤ) (f : Fault) (ts : List Entry) → LacksClock zone seconds f ts → AreQuiet ts
lacks_quiet = lost_clock_so IsQuiet (λ x seen. (tt, refl)) (λ x place piece. (tt, refl))

pub lost_quiet : (zone : Zone) (ts : List Entry) → LacksZoneMemory zone ts → AreQuiet ts
lost_quiet = lost_zone_so IsQuiet (λ x seen. (tt, refl)) (λ x place piece. (tt, refl))

pub stop_quiet : (zone : Zone) (seconds : ℤ) (why : ClockStop) (ts : List Entry) → ClockStopped zone seconds why ts → AreQuiet ts
stop_quiet = stop_so IsQuiet (λ x seen. (tt, refl)) (λ x place piece. (tt, refl))
