-- What hinders the rotation of a family, be its names numbers or dates.
use Rattle.std.specs.Prelude.{◌≡◌, ℕ, ℤ, Bool, true, false, ◌&&◌, ◌==◌, List, [], ◌∷◌, Option, Some, None, if◌then◌else◌}
use Rattle.std.specs.List.{list_any}
use Rattle.std.specs.Ordering.{int_eq}
use Rattle.lr_rules.specs.declared.clock.Clock.{Clock}
use Rattle.lr_rules.specs.declared.fault.Fault.{Fault}
use Rattle.lr_rules.specs.declared.fault.Fault.TheVariants as fault
use Rattle.lr_rules.specs.declared.path.Path.{Path}
use Rattle.lr_rules.specs.declared.rule.Count.{Count}
use Rattle.lr_rules.specs.declared.rule.Count.TheVariants as count
use Rattle.lr_rules.specs.declared.rule.Format.{Format}
use Rattle.lr_rules.specs.declared.rule.Naming.{Naming}
use Rattle.lr_stamps.specs.Dated.{clock_seconds}
use Rattle.lr_family.specs.declared.place.Place.{Place}
use Rattle.lr_family.specs.declared.place.Place.TheVariants as at
use Rattle.lr_family.specs.declared.stand.Member.{Member}
use Rattle.lr_family.specs.declared.stand.Stand.{Stand}
use Rattle.lr_chain.specs.declared.ready.PrepareStop.{PrepareStop}
use Rattle.lr_chain.specs.declared.ready.PrepareStop.TheVariants as stop
use Rattle.lr_chain.specs.Ready.{is_highest, highest_path}

-- the place has this moment and this serial number
abbrev pub is_stamp : ℤ → ℕ → Place → Bool
is_stamp seconds serial (at.Stamp moment number) = int_eq moment seconds && number == serial
is_stamp seconds serial (at.Number place) = false

-- this fault, of the path of the member with this moment and serial number, where there is one
abbrev pub fault_at : (Path → Fault) → ℤ → ℕ → List Member → List Fault
fault_at why seconds serial [] = []
fault_at why seconds serial (m ∷ ms) = if is_stamp seconds serial m.place then why m.path ∷ [] else fault_at why seconds serial ms

-- the faults of a member's path: its serial number can't become higher; its name is taken
abbrev pub too_high : Path → Fault
too_high path = fault.TooHigh path

abbrev pub taken_fault : Path → Fault
taken_fault path = fault.Taken path

-- What keeps the log from being rotated to the moment of a stamp: where names have serial numbers, a member of that moment has the
-- greatest that there is, so that none comes next; where they have none, the name is a member's.
abbrev pub stamp_hindrances : Format → ℤ → List Member → List Fault
stamp_hindrances format seconds members =
    if format.serial then fault_at too_high seconds 4294967295 members else fault_at taken_fault seconds 0 members

-- all members are kept
abbrev pub keeps_all : Count → Bool
keeps_all count.Always = true
keeps_all (count.Keep n) = false

-- What keeps it from being rotated to the first of the numbered places: all members are kept, and one has the highest number that
-- there is, so that it would have to move.
abbrev pub number_hindrances : Naming → Count → List Member → List Fault
number_hindrances n c members = if keeps_all c && list_any (is_highest n) members then fault.TooHigh (highest_path n) ∷ [] else []

-- by the format of the dates, where there is one
abbrev pub name_hindrances : Option Format → Naming → Count → Clock → List Member → List Fault
name_hindrances None n c clock members = number_hindrances n c members
name_hindrances (Some format) n c clock members = stamp_hindrances format (clock_seconds n.dated clock) members

-- What hinders the rotation of a family, of which this stands: its directory isn't there; or the log can't get its name.
abbrev pub what_hinders : Naming → Count → Clock → Stand → List Fault
what_hinders n c clock stand = if stand.there then name_hindrances n.dated n c clock stand.members else fault.NoDir n.dir ∷ []

-- why the rotation wasn't made ready is all that hinders it; want of memory says nothing of that
abbrev pub IsHindered : List Fault → PrepareStop → Type 0
IsHindered faults (stop.NoDir path) = faults ≡ fault.NoDir path ∷ []
IsHindered faults (stop.TooHigh path) = faults ≡ fault.TooHigh path ∷ []
IsHindered faults (stop.Taken path) = faults ≡ fault.Taken path ∷ []
IsHindered faults stop.Memory = Unit {0}
