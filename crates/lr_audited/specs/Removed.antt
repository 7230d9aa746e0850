-- What a plan removes, under the present names, and why.
use Rattle.std.specs.Prelude.{◌≡◌, ℕ, ℤ, suc, int_lt, Bool, true, false, List, [], ◌∷◌, ◌++◌, map, reverse, All, Option, Some, None}
use Rattle.std.specs.Prelude.{if◌then◌else◌}
use Rattle.std.specs.List.{flat_map}
use Rattle.lr_rules.specs.declared.clock.Clock.{Clock}
use Rattle.lr_rules.specs.declared.path.Path.{Path}
use Rattle.lr_rules.specs.declared.rule.Count.{Count}
use Rattle.lr_rules.specs.declared.rule.Format.{Format}
use Rattle.lr_rules.specs.Dated.{stamp_key, IsDatedAt}
use Rattle.lr_rules.specs.Limits.{is_format, or_none}
use Rattle.lr_stamps.specs.Dated.{clock_seconds}
use Rattle.lr_family.specs.declared.stand.Member.{Member}
use Rattle.lr_family.specs.Stands.{number_in, key_in}
use Rattle.lr_scripts.specs.declared.removal.Removal.{Removal}
use Rattle.lr_copy.specs.declared.job.Job.{Job}
use Rattle.lr_chain.specs.Rotation.{is_left, is_expired}
use Rattle.lr_chain.specs.Serials.{next_serial}
use Rattle.lr_plan.specs.declared.plan.LogPlan.{LogPlan}
use Rattle.lr_plan.specs.declared.plan.SetPlan.{SetPlan}
use Rattle.lr_audited.specs.declared.line.WhyGone.{WhyGone}
use Rattle.lr_audited.specs.declared.line.WhyGone.TheVariants as why

-- ---- one file

-- A file that is a member once the rotation is made, with so many later ones: it goes where the count leaves no room for it;
-- else where it is too old.
abbrev pub file_goes : Count → ℕ → Bool → Path → List (Path × WhyGone)
file_goes c later old x = if is_left c later then (x, why.Count) ∷ [] else if old then (x, why.Age) ∷ [] else []

abbrev pub member_going : Count → Option ℕ → ℤ → ℕ → Member → List (Path × WhyGone)
member_going c maxage now later m = file_goes c later (is_expired maxage now m) m.path

-- The log itself, or what waits beside it and is taken up; its age isn't tested. A copy of it isn't there yet.
abbrev pub log_going : Count → Option Job → Path → ℕ → List (Path × WhyGone)
log_going c None log later = file_goes c later false log
log_going c (Some job) log later = []

-- A log that is set aside goes behind its copy, whatever the count.
abbrev pub aside_going : Option Path → Path → List (Path × WhyGone)
aside_going None log = []
aside_going (Some path) log = (log, why.Count) ∷ []

-- ---- numbered members, the newest first

-- one that isn't left over moves one place on
abbrev pub moved_going : Count → Option ℕ → ℤ → Member → List (Path × WhyGone)
moved_going c maxage now m = if is_left c (number_in m.place) then [] else member_going c maxage now (suc (number_in m.place)) m

-- ---- dated members, the newest first

-- of which the first has so many later ones
abbrev pub dated_going : Count → Option ℕ → ℤ → ℕ → List Member → List (Path × WhyGone)
dated_going c maxage now later [] = []
dated_going c maxage now later (m ∷ ms) = member_going c maxage now later m ++ dated_going c maxage now (suc later) ms

-- the log, whose name has this key, comes before the first that isn't later
abbrev pub going_with : Count → Option ℕ → ℤ → ℤ → (ℕ → List (Path × WhyGone)) → ℕ → List Member → List (Path × WhyGone)
going_with c maxage now key log later [] = log later
going_with c maxage now key log later (m ∷ ms) =
    if int_lt key (key_in m.place) then member_going c maxage now later m ++ going_with c maxage now key log (suc later) ms
    else log later ++ dated_going c maxage now (suc later) (m ∷ ms)

-- ---- one log

-- the stamp and the serial number of the log's new name
abbrev pub new_seconds : Clock → LogPlan → ℤ
new_seconds clock log = clock_seconds log.naming.dated clock

abbrev pub new_serial : Clock → LogPlan → ℕ
new_serial clock log = next_serial log.stand.members (new_seconds clock log)

-- those that go, the newest first: of numbers the log comes to place 0
abbrev pub newest_going : Option Format → Clock → LogPlan → List (Path × WhyGone)
newest_going None clock log = log_going log.count log.job log.ready.log 0 ++ flat_map
    (moved_going log.count log.maxage clock.now.seconds) log.stand.members
newest_going (Some format) clock log =
    going_with log.count log.maxage clock.now.seconds (stamp_key (new_seconds clock log) (new_serial clock log))
    (log_going log.count log.job log.ready.log) 0 log.stand.members

-- what is left over, which goes first
abbrev pub left_over : Removal → Path × WhyGone
left_over r = (r.path, why.Count)

abbrev pub leftovers_of : LogPlan → List (Path × WhyGone)
leftovers_of log = map left_over log.ready.leftovers

-- what goes behind the rotation: the log where it was set aside, and then the oldest first
abbrev pub retired_of : Clock → LogPlan → List (Path × WhyGone)
retired_of clock log = aside_going log.aside log.log ++ reverse (newest_going log.naming.dated clock log)

abbrev pub log_removed : Clock → LogPlan → List (Path × WhyGone)
log_removed clock log = leftovers_of log ++ retired_of clock log

-- ---- all

-- logs that share their scripts are all rotated before the first retirement
abbrev pub set_removed : Clock → SetPlan → List (Path × WhyGone)
set_removed clock set =
    if set.shared then flat_map leftovers_of set.logs ++ flat_map (retired_of clock) set.logs
    else flat_map (log_removed clock) set.logs

abbrev pub removed_by : Clock → List SetPlan → List (Path × WhyGone)
removed_by clock sets = flat_map (set_removed clock) sets

-- ---- what is asked of a plan

-- where the names are dates, the log's new one is of the clock's moment, with the serial number that comes next
pub record IsStamped (clock : Clock) (log : LogPlan) : Type 0 where
  pub format : or_none is_format log.naming.dated ≡ true
  pub stamped : (f : Format) → log.naming.dated ≡ Some f
      → IsDatedAt log.naming (new_seconds clock log) (new_serial clock log) log.ready.target

abbrev pub AreStamped : Clock → List SetPlan → Type 0
AreStamped clock sets = All (λ set. All (IsStamped clock) set.logs) sets
