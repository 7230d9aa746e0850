-- The rotation of a dated family as a function of the clock, of what the rule keeps, and of what was seen.
use Rattle.std.specs.Prelude.{ℕ, ℤ, pos, neg_ℤ, false, int_lt, List, [], ◌∷◌, ◌++◌, map, reverse, Option, Some, None, if◌then◌else◌}
use Rattle.lr_rules.specs.declared.clock.Clock.{Clock}
use Rattle.lr_rules.specs.declared.path.Path.{Path}
use Rattle.lr_rules.specs.declared.rule.Count.{Count}
use Rattle.lr_rules.specs.declared.rule.Format.{Format}
use Rattle.lr_rules.specs.declared.rule.Make.{Make}
use Rattle.lr_rules.specs.declared.rule.Naming.{Naming}
use Rattle.lr_rules.specs.Dated.{serial_text}
use Rattle.lr_rules.specs.Path.{joined}
use Rattle.lr_stamps.specs.Clocks.{stamp_of}
use Rattle.lr_stamps.specs.Dated.{clock_seconds}
use Rattle.lr_family.specs.declared.place.Place.{Place}
use Rattle.lr_family.specs.declared.place.Place.TheVariants as at
use Rattle.lr_family.specs.declared.stand.Member.{Member}
use Rattle.lr_scripts.specs.declared.removal.Removal.{Removal}
use Rattle.lr_chain.specs.declared.ready.Ready.{Ready}
use Rattle.lr_chain.specs.Rotation.{is_expired}
use Rattle.lr_chain.specs.DatedRotation.{Ranked, key_of, gone}
use Rattle.lr_chain.specs.Serials.{next_serial}

-- the moment of a place, and its serial number; a dated family has no numbers, which count as moments before 1970 as in the order
-- of members
abbrev pub seconds_in : Place → ℤ
seconds_in (at.Stamp seconds serial) = seconds
seconds_in (at.Number place) = neg_ℤ (pos place)

abbrev pub serial_in : Place → ℕ
serial_in (at.Stamp seconds serial) = serial
serial_in (at.Number place) = 0

-- a member as its rotation sees it: it is too old that was modified more than so many days before now
abbrev pub ranked : Option ℕ → ℤ → Member → Ranked
ranked maxage now m = record {
  path = m.path;
  seconds = seconds_in m.place;
  serial = serial_in m.place;
  old = is_expired maxage now m;
}

-- the log, once it has this name; its age isn't tested
abbrev pub renamed : ℤ → ℕ → Path → Ranked
renamed seconds serial target = record { path = target; seconds = seconds; serial = serial; old = false }

-- these, the newest first, with one more at its place
abbrev pub with_one : Ranked → List Ranked → List Ranked
with_one one [] = one ∷ []
with_one one (m ∷ ms) = if int_lt (key_of one) (key_of m) then m ∷ with_one one ms else one ∷ m ∷ ms

-- the members, the newest first, once the log has this name
abbrev pub all_of : Option ℕ → ℤ → ℤ → ℕ → Path → List Member → List Ranked
all_of maxage now seconds serial target members = with_one (renamed seconds serial target) (map (ranked maxage now) members)

-- the removal of what has this path: its unlink alone
abbrev pub plain_removal : Path → Removal
plain_removal path = record { path = path; preremove = None; mail = None }

abbrev pub removal_of : Ranked → Removal
removal_of m = plain_removal m.path

-- ---- the name that the log gets

-- the stamp that the clock gives: the format of dates with its fields filled in
abbrev pub stamp_by : Option Format → Clock → List ℕ
stamp_by None clock = []
stamp_by (Some format) clock = stamp_of format clock

-- The path of the clock's stamp with this serial number: the base, the stamp, a dot and the number where it is above 0, and the
-- extension.
abbrev pub dated_path : Naming → Clock → ℕ → Path
dated_path n clock serial = joined n.dir (n.base ++ (stamp_by n.dated clock ++ serial_text serial) ++ n.ext)

-- where the log goes: to the clock's stamp, with the serial number that comes next among the members
abbrev pub dated_target : Naming → Clock → List Member → Path
dated_target n clock members = dated_path n clock (next_serial members (clock_seconds n.dated clock))

-- the members, the newest first, once the log has that name
abbrev pub all_by : Naming → Option ℕ → Clock → List Member → List Ranked
all_by n maxage clock members = all_of maxage clock.now.seconds (clock_seconds n.dated clock)
    (next_serial members (clock_seconds n.dated clock)) (dated_target n clock members) members

-- ---- the whole rotation

-- The removals behind the log's rename: of the members and the log under its new name those that the count leaves no room for, and
-- of the members those that were modified more than `maxage` days before the clock's moment, the oldest first.
abbrev pub dated_removals : Naming → Count → Option ℕ → Clock → List Member → List Removal
dated_removals n c maxage clock members =
    map removal_of (reverse (gone c 0 (all_by n maxage clock members)))

-- The rotation to this name, which has this moment and this serial number: no member moves, those that go are removed behind it,
-- the oldest first, and the log is made anew so.
abbrev pub ready_to : Path → Count → Option ℕ → ℤ → Make → ℤ → ℕ → Path → List Member → Ready
ready_to log c maxage now anew seconds serial target members = record {
  leftovers = [];
  dir = None;
  moves = [];
  log = log;
  target = target;
  make = anew;
  retire = map removal_of (reverse (gone c 0 (all_of maxage now seconds serial target members)));
}

-- The rotation, with all its paths: the log goes to the clock's stamp, no member moves, and the log is made anew so.
abbrev pub dated_ready : Path → Naming → Count → Option ℕ → Clock → Make → List Member → Ready
dated_ready log n c maxage clock anew members = record {
  leftovers = [];
  dir = None;
  moves = [];
  log = log;
  target = dated_target n clock members;
  make = anew;
  retire = dated_removals n c maxage clock members;
}
