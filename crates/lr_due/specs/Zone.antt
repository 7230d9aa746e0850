-- What a zone's text or bytes say, and the clock in it.
use Rattle.std.specs.Prelude.{◌≡◌, ◌⊎◌, List, ℕ, ℤ, ◌+ℤ◌, ◌-ℤ◌, None, Ok, Err, Result, pos}
use Rattle.std.specs.Int.{int_max}
use Rattle.jiff_core.specs.Calendar.{IsBetween, days_from_civil}
use Rattle.jiff_core.specs.Timestamp.{nanos_of_seconds}
use Rattle.jiff_core.specs.declared.error.TzifFault.{TzifFault}
use Rattle.jiff_tz.specs.declared.timezone.TimeZone.{TimeZone}
use Rattle.jiff_tz.specs.declared.timezone.TimeZone.TheVariants.{UTC, Unknown, Fixed, Posix, Tzif}
use Rattle.jiff_tz.specs.PosixReader.{read_whole}
use Rattle.jiff_tz.specs.TzifReader.{read_tzif}
use Rattle.jiff_tz.specs.Tzif.{tzif_view, RuleAgrees, HasBadRule}
use Rattle.jiff_tz.specs.Zone.{offset_at}
use Rattle.jiff.specs.Placed.{IsPosixZone}
use Rattle.lr_rules.specs.Between.{civil_seconds}
use Rattle.lr_rules.specs.declared.civil.Civil.{Civil}
use Rattle.lr_rules.specs.declared.clock.Clock.{Clock}
use Rattle.lr_due.specs.declared.zone.ZoneText.{ZoneText}
use Rattle.lr_due.specs.declared.zone.ZoneText.TheVariants.{Utc, Rule, Bytes}
use Rattle.lr_due.specs.declared.zone.ZoneStop.{ZoneStop}
use Rattle.lr_due.specs.declared.zone.ZoneStop.TheVariants.{Range, Refused, Memory}

-- the seconds of which clocks tell
abbrev pub IsInRange : ℤ → Type 0
IsInRange seconds = IsBetween (pos 0) (pos 250_000_000_000) seconds

-- the zone is the table that the bytes hold
abbrev pub IsTableZone : List ℕ → TimeZone → Type 0
IsTableZone bytes UTC = ⊥
IsTableZone bytes Unknown = ⊥
IsTableZone bytes (Fixed o) = ⊥
IsTableZone bytes (Posix p) = ⊥
IsTableZone bytes (Tzif z) = (read_tzif bytes ≡ Ok (tzif_view z.now)) × RuleAgrees z.now

-- the zone is what was given
abbrev pub IsZoneOf : ZoneText → TimeZone → Type 0
IsZoneOf Utc tz = tz ≡ UTC
IsZoneOf (Rule text) tz = IsPosixZone text tz
IsZoneOf (Bytes bytes) tz = IsTableZone bytes tz

-- what was given is no zone: jiff's reader of rules or of tables refuses it
abbrev pub IsRefusedZone : ZoneText → Type 0
IsRefusedZone Utc = ⊥
IsRefusedZone (Rule text) = read_whole text ≡ None
IsRefusedZone (Bytes bytes) =
    ((f : TzifFault) × (read_tzif bytes ≡ Err f)) ⊎ HasBadRule (read_tzif bytes)

-- what was given is the bytes of a table
abbrev pub IsTable : ZoneText → Type 0
IsTable Utc = ⊥
IsTable (Rule text) = ⊥
IsTable (Bytes bytes) = Unit {0}

-- the answer is that the zone is refused, unless there is no memory to read it
abbrev pub IsZoneRefusal : Result Clock ZoneStop → Type 0
IsZoneRefusal (Ok clock) = ⊥
IsZoneRefusal (Err Range) = ⊥
IsZoneRefusal (Err Refused) = Unit {0}
IsZoneRefusal (Err Memory) = Unit {0}

-- the civil moment is what a clock in the zone shows at that second
abbrev pub ShowsAt : TimeZone → ℤ → Civil → Type 0
ShowsAt tz seconds c =
    civil_seconds c
    ≡ seconds +ℤ offset_at tz (nanos_of_seconds seconds)

-- the same time of the civil day before
abbrev pub IsDayBefore : Civil → Civil → Type 0
IsDayBefore c before =
    (days_from_civil before.year before.month before.day +ℤ pos 1 ≡ days_from_civil c.year c.month c.day)
    × ((before.hour ≡ c.hour) × (before.minute ≡ c.minute) × (before.second ≡ c.second))

-- the clock at a second: now, the civil day before and the hour before, with no second below 0
pub record IsClockAt (tz : TimeZone) (seconds : ℤ) (clock : Clock) : Type 0 where
  pub now : ShowsAt tz seconds clock.now.civil
  pub now_seconds : clock.now.seconds ≡ seconds
  pub day : IsDayBefore clock.now.civil clock.yesterday.civil
  pub day_seconds : clock.yesterday.seconds ≡ int_max (pos 0) (seconds -ℤ pos 86_400)
  pub hour : ShowsAt tz (seconds -ℤ pos 3600) clock.hour_ago.civil
  pub hour_seconds : clock.hour_ago.seconds ≡ int_max (pos 0) (seconds -ℤ pos 3600)

-- the clock in what was given
abbrev pub IsClockIn : ZoneText → ℤ → Clock → Type 0
IsClockIn zone seconds clock = (tz : TimeZone) × IsZoneOf zone tz × IsClockAt tz seconds clock
