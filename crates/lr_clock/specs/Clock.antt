-- The clock of a call.
use Rattle.std.specs.Prelude.{◌≡◌, ℤ, List, [], ◌∷◌}
use Rattle.lr_rules.specs.declared.clock.Clock.{Clock}
use Rattle.lr_rules.specs.declared.fault.Fault.{Fault}
use Rattle.lr_rules.specs.declared.fault.Fault.TheVariants as fault
use Rattle.lr_rules.specs.declared.fault.Notice.{Notice}
use Rattle.lr_rules.specs.declared.fault.ZoneWhy.TheVariants as why
use Rattle.lr_host.specs.declared.entry.Entry.{Entry}
use Rattle.lr_host.specs.Counted.{NoneAround}
use Rattle.lr_due.specs.declared.tz.Zone.{Zone}
use Rattle.lr_due.specs.declared.zone.ZoneText.{ZoneText}
use Rattle.lr_due.specs.Zone.{IsInRange, IsRefusedZone, IsClockIn}
use Rattle.lr_report.specs.declared.outcome.Outcome.{Outcome}
use Rattle.lr_report.specs.declared.outcome.Outcome.TheVariants.{Done, OutOfMemory}
use Rattle.lr_clock.specs.declared.clock.ClockStop.{ClockStop}
use Rattle.lr_clock.specs.declared.clock.ClockStop.TheVariants as stop
use Rattle.lr_clock.specs.Zone.{ShowsZone, LacksText, LacksZoneMemory, IsZoneText, IsTextFault}

-- The clock at these seconds is that of the zone's text, which the entries show.
pub record ShowsClock (zone : Zone) (seconds : ℤ) (clock : Clock) (ts : List Entry) : Type 0 where
  pub text : ZoneText
  pub in_range : IsInRange seconds
  pub shows : ShowsZone zone text ts
  pub clock_is : IsClockIn text seconds clock

-- There is none, as the fault tells: the seconds are out of range, and then nothing is called; or the zone has no text, or one that
-- is refused.
pub data LacksClock (zone : Zone) (seconds : ℤ) (f : Fault) (ts : List Entry) : Type 0 where
  out_of_range : ¬ (IsInRange seconds) → f ≡ fault.Clock → ts ≡ [] → LacksClock zone seconds f ts
  no_text : IsInRange seconds → LacksText zone f ts → LacksClock zone seconds f ts
  refused : (text : ZoneText) → IsInRange seconds → f ≡ fault.Zone why.Refused → IsRefusedZone text → ShowsZone zone text ts
      → LacksClock zone seconds f ts

abbrev pub ClockStopped : Zone → ℤ → ClockStop → List Entry → Type 0
ClockStopped zone seconds (stop.Fault f) ts = LacksClock zone seconds f ts
ClockStopped zone seconds stop.Memory ts = LacksZoneMemory zone ts

-- the answer of a call that has no clock
abbrev pub clock_answer : ClockStop → Outcome
clock_answer (stop.Fault f) = Done (record { notices = []; faults = f ∷ [] })
clock_answer stop.Memory = OutOfMemory

-- ---- without entries

-- The clock at these seconds is that of a text of the zone.
pub record HasClock (zone : Zone) (seconds : ℤ) (clock : Clock) : Type 0 where
  pub text : ZoneText
  pub in_range : IsInRange seconds
  pub text_is : IsZoneText zone text
  pub not_refused : ¬ (IsRefusedZone text)
  pub clock_is : IsClockIn text seconds clock

-- There is none, as the fault tells: the seconds are out of range; or else the zone has no text, or one that is refused.
pub data IsClockFault (zone : Zone) (seconds : ℤ) (f : Fault) : Type 0 where
  is_range : ¬ (IsInRange seconds) → f ≡ fault.Clock → IsClockFault zone seconds f
  is_text : IsInRange seconds → IsTextFault zone f → IsClockFault zone seconds f
  is_refused : (text : ZoneText) → IsInRange seconds → IsZoneText zone text → f ≡ fault.Zone why.Refused → IsRefusedZone text
      → IsClockFault zone seconds f

-- A report has a clock behind it, and tells no fault of the clock or the zone; or it tells one fault alone, that there is none.
pub data IsClocked (zone : Zone) (seconds : ℤ) (notices : List Notice) (faults : List Fault) : Type 0 where
  with_clock : (clock : Clock) → HasClock zone seconds clock → NoneAround faults → IsClocked zone seconds notices faults
  without_clock : (f : Fault) → notices ≡ [] → faults ≡ f ∷ [] → IsClockFault zone seconds f → IsClocked zone seconds notices faults
