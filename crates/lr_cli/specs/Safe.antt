-- The promises of a call for sets that aren't ahead of its clock.
use Rattle.std.specs.Prelude.{ℤ, List, Option}
use Rattle.lr_rules.specs.declared.clock.Clock.{Clock}
use Rattle.lr_due.specs.declared.tz.Zone.{Zone}
use Rattle.lr_host.specs.declared.entry.Entry.{Entry}
use Rattle.lr_host.specs.declared.journal.Journal.{Journal}
use Rattle.lr_host.specs.Safe.{KeepsSafe}
use Rattle.lr_host.specs.Sets.{LogSet}
use Rattle.lr_host.specs.Told.{Left, Then}
use Rattle.lr_host.specs.World.{Past}
use Rattle.lr_laws.specs.Forward.{IsForwardFor}
use Rattle.lr_laws.specs.Stays.{KeepsSafeWhere}
use Rattle.lr_move.specs.Moved.{KeepsMoved, KeepsMovedWhere}
use Rattle.lr_clock.specs.Clock.{ShowsClock}

-- what was done behind the clock is left open
abbrev pub Whatever : List Entry → Type 0
Whatever ts = Unit {0}

-- the first entries show this clock of the zone at these seconds
abbrev pub HadClock : Zone → ℤ → Clock → Option Journal → Option Journal → Type 0
HadClock zone seconds clock told later = Left (Then (ShowsClock zone seconds clock) Whatever) told later

-- A promise that a call keeps whatever the set where there was no clock, and else for sets of which a condition holds: that none of
-- their stamps had gone ahead of the call's clock, which the first entries show; of a numbered set the clock asks nothing.
pub data KeepsByClock (keeps : Option Journal → Option Journal → Type 0)
    (where_so : (LogSet → Past → Type 0) → Option Journal → Option Journal → Type 0) (zone : Zone) (seconds : ℤ)
    (told later : Option Journal) : Type 0 where
  no_clock : keeps told later → KeepsByClock keeps where_so zone seconds told later
  by_clock : (clock : Clock) → HadClock zone seconds clock told later → where_so (IsForwardFor clock) told later
      → KeepsByClock keeps where_so zone seconds told later

-- A set that was safe is safe afterwards, where it is steady.
abbrev pub KeepsSafeByClock : Zone → ℤ → Option Journal → Option Journal → Type 0
KeepsSafeByClock zone seconds told later = KeepsByClock KeepsSafe KeepsSafeWhere zone seconds told later

-- So is one whose log is set aside, and its log is let go only behind a whole copy.
abbrev pub KeepsMovedByClock : Zone → ℤ → Option Journal → Option Journal → Type 0
KeepsMovedByClock zone seconds told later = KeepsByClock KeepsMoved KeepsMovedWhere zone seconds told later
