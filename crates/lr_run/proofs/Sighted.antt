-- A dry run leaves looks, listings and reads alone.
use Rattle.std.proofs.Common.{◌≡◌, ◌≤◌, ℕ, true, List, [], ◌++◌, length, Option, Result, refl, sym, subst}
use Rattle.lr_rules.specs.declared.clock.Clock.{Clock}
use Rattle.lr_rules.specs.declared.fault.Fault.{Fault}
use Rattle.lr_rules.specs.declared.path.Path.{Path}
use Rattle.lr_rules.specs.declared.rule.Rule.{Rule}
use Rattle.lr_rules.specs.declared.rules.Rules.{Rules}
use Rattle.lr_rules.specs.Path.{parent_of}
use Rattle.lr_host.specs.declared.entry.Entry.{Entry}
use Rattle.lr_host.specs.declared.entry.Entry.TheVariants as entry
use Rattle.lr_host.specs.declared.journal.Journal.{Journal}
use Rattle.lr_host.specs.declared.thing.Seen.{Seen}
use Rattle.lr_host.specs.Looks.{Sees, IsDir, IsNothing}
use Rattle.lr_host.specs.Quiet.{AreQuiet, IsQuiet}
use Rattle.lr_host.specs.Told.{Each, Left, Then}
use Rattle.lr_host.proofs.Each.{each_append}
use Rattle.lr_host.proofs.Left.{left_as}
use Rattle.lr_plan.specs.Asked.{Asked}
use Rattle.lr_laws_rotations.specs.Runs.{IsWholeRunBy}
use Rattle.lr_laws_rotations.proofs.Shapes.{quiet_run_by}
use Rattle.lr_laws.specs.StateWhole.{KeepsWhole}
use Rattle.lr_laws_acts.specs.Emptied.{EmptiesWhole}
use Rattle.lr_laws_acts.proofs.Entries.{quiet_empties}
use Rattle.lr_laws_looks.proofs.Quiet.{whole_looking, part_looking}
use Rattle.lr_run.specs.declared.answer.Ran.{Ran}
use Rattle.lr_run.specs.declared.answer.RunStop.{RunStop}
use Rattle.lr_run.specs.Copied.{IsCopyBy}
use Rattle.lr_host.specs.Looking.{IsSight, AreSights}
use Rattle.lr_run.specs.Halt.{Halt, DirBars, Halts, not_seen, no_directory, held, not_begun, unknown, too_big, no_memory, short, short_anew}
use Rattle.lr_run.specs.Ran.{RunEnds, halted, came, RanSo}
use Rattle.lr_run.specs.Saw.{Saw, ShowsStateFile, by_dir, by_none, ShowsSaw}
use Rattle.lr_run.specs.State.{IsNewText}
use Rattle.lr_run.specs.Work.{Work}
use Rattle.lr_laws.specs.Forward.{IsForwardFor}
use Rattle.lr_move.specs.Moved.{KeepsMovedWhere}
use Rattle.lr_run.proofs.Emptying.{left_copied}
use Rattle.lr_run.proofs.Moving.{quiet_moved}
use Rattle.lr_run.proofs.Renewing.{left_whole, quiet_alone}
use Rattle.lr_run.proofs.Seeing.{state_so, looks_so, some_so}

-- what holds of looks, of listings, and of reads of 65,536 bytes at most
module _ (P : Entry → Type 0) (look : (x : Path) (seen : Option Seen) → P (entry.Look x seen)) (list : (x : Path) (names : List (List ℕ)) → P (entry.List x names)) (read : (x : Path) (place : ℕ) (piece : List ℕ) → length piece ≤ 65536 → P (entry.Reads x place piece)) where
  pub sees_so : (x : Path) (Q : Option Seen → Type 0) (ts : List Entry) → Sees x Q ts → Each P ts
  sees_so x Q ts s = subst (Each P) (sym s.look) (look x s.seen, tt)

  pub then_so : (Q R : List Entry → Type 0) (ts : List Entry) → ((us : List Entry) → Q us → Each P us) → ((us : List Entry) → R us → Each P us) → Then Q R ts → Each P ts
  then_so Q R ts f g t = subst (Each P) (sym t.joined) (each_append P t.front t.back (f t.front t.first) (g t.back t.second))

  none_so : (ts : List Entry) → ts ≡ [] → Each P ts
  none_so ts none = subst (Each P) (sym none) tt

  pub saw_so : (state : Path) (rules : List Rule) (saw : Saw) (dir reads looks : List Entry) → ShowsSaw true state rules saw dir reads looks → Each P (dir ++ (reads ++ looks))
  saw_so state rules saw dir reads looks s = go s.file
    where
      by_looks : Each P looks
      by_looks = looks_so P look list read looks (whole_looking rules saw.sets saw.faults looks s.sets.shown)

      go : ShowsStateFile true state saw.text saw.stale dir reads → Each P (dir ++ (reads ++ looks))
      go (by_dir d t) = each_append P dir (reads ++ looks) (sees_so (parent_of state) IsDir dir d) (each_append P reads looks (state_so P look read state t.sights reads t.shown) by_looks)
      go (by_none dry d none no_reads) = each_append P dir (reads ++ looks) (sees_so (parent_of state) IsNothing dir d) (each_append P reads looks (none_so reads no_reads) by_looks)

  pub halted_so : (state : Path) (rules : Rules) (clock : Clock) (asked : Asked) (halt : Halt) (ts : List Entry) → Halts true state rules clock asked halt ts → Each P ts
  halted_so state rules clock asked halt ts (not_seen is none) = none_so ts none
  halted_so state rules clock asked halt ts (no_directory is s) = sees_so (parent_of state) (DirBars true) ts s
  halted_so state rules clock asked halt ts (held acts is s) = absurd (cc)
  halted_so state rules clock asked halt ts (not_begun acts is t) = absurd (cc)
  halted_so state rules clock asked halt ts (unknown f is t) = then_so _ _ ts (λ us h. sees_so (parent_of state) IsDir us h) (λ us h. state_so P look read state h.sights us h.shown) t
  halted_so state rules clock asked halt ts (too_big saw is o) = subst (Each P) (sym o.entries) (saw_so state rules.sets saw o.dir o.reads o.looks o.seen)
  halted_so state rules clock asked halt ts (no_memory is none) = none_so ts none
  halted_so state rules clock asked halt ts (short is t) = then_so _ _ ts (λ us h. sees_so (parent_of state) IsDir us h) (λ us h. some_so P look list read state rules.sets us h) t
  halted_so state rules clock asked halt ts (short_anew dry is t) = then_so _ _ ts (λ us h. sees_so (parent_of state) IsNothing us h) (λ us h. looks_so P look list read us (part_looking rules.sets us h)) t

  pub ends_so : (state : Path) (rules : Rules) (clock : Clock) (asked : Asked) (earlier : List Fault) (r : Result Ran RunStop) (work : Option Work) (ts : List Entry) → RunEnds true state rules clock asked earlier r work ts → Each P ts
  ends_so state rules clock asked earlier r work ts (halted halt none h a) = halted_so state rules clock asked halt ts h
  ends_so state rules clock asked earlier r work ts (came w some s a is) = subst (Each P) (sym is) (saw_so state rules.sets w.saw w.dir w.reads w.looks s.seen)

-- ---- a dry run

ends_quiet : (state : Path) (rules : Rules) (clock : Clock) (asked : Asked) (earlier : List Fault) (r : Result Ran RunStop) (work : Option Work) (ts : List Entry) → RunEnds true state rules clock asked earlier r work ts → AreQuiet ts
ends_quiet = ends_so IsQuiet (λ x seen. (tt, refl)) (λ x names. (tt, refl)) (λ x place piece short. (tt, refl))

pub dry_sights : (state : Path) (rules : Rules) (clock : Clock) (asked : Asked) (earlier : List Fault) (r : Result Ran RunStop) {o n : Option Journal} → RanSo true state rules clock asked earlier r o n → Left AreSights o n
dry_sights state rules clock asked earlier r ran = left_as ran.shows (λ ts h. ends_so IsSight (λ x seen. tt) (λ x names. tt) (λ x place piece short. tt) state rules clock asked earlier r ran.work ts h)

-- it has the shape of one that changes nothing
pub dry_shape : (state : Path) (rules : Rules) (clock : Clock) (asked : Asked) (earlier : List Fault) (r : Result Ran RunStop) {o n : Option Journal} → RanSo true state rules clock asked earlier r o n → Left (IsWholeRunBy clock) o n
dry_shape state rules clock asked earlier r ran = left_as ran.shows (λ ts h. quiet_run_by clock ts (ends_quiet state rules clock asked earlier r ran.work ts h))

-- it leaves the state as it is
pub dry_whole : (state : Path) (rules : Rules) (clock : Clock) (asked : Asked) (earlier : List Fault) (r : Result Ran RunStop) {o n : Option Journal} → RanSo true state rules clock asked earlier r o n → KeepsWhole state (IsNewText state clock asked rules) o n
dry_whole state rules clock asked earlier r ran = left_whole state (IsNewText state clock asked rules) (RunEnds true state rules clock asked earlier r ran.work) ran.shows
    (λ ts made h. quiet_alone state (IsNewText state clock asked rules ts) ts (ends_quiet state rules clock asked earlier r ran.work ts h))

-- it empties nothing
pub dry_copied : (state : Path) (rules : Rules) (clock : Clock) (asked : Asked) (earlier : List Fault) (r : Result Ran RunStop) {o n : Option Journal} → RanSo true state rules clock asked earlier r o n → EmptiesWhole (IsCopyBy rules.sets clock) o n
dry_copied state rules clock asked earlier r ran = left_copied rules.sets clock (RunEnds true state rules clock asked earlier r ran.work) ran.shows (λ ts made h. quiet_empties (IsCopyBy rules.sets clock) ts (ends_quiet state rules clock asked earlier r ran.work ts h))

-- it lets no log go
pub dry_moved : (state : Path) (rules : Rules) (clock : Clock) (asked : Asked) (earlier : List Fault) (r : Result Ran RunStop) {o n : Option Journal} → RanSo true state rules clock asked earlier r o n → KeepsMovedWhere (IsForwardFor clock) o n
dry_moved state rules clock asked earlier r ran = quiet_moved (IsForwardFor clock) (left_as ran.shows (λ ts h. ends_quiet state rules clock asked earlier r ran.work ts h))
