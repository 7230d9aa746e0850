-- What the reading of a configuration and the run behind it leave together.
use Rattle.std.proofs.Common.{◌≡◌, ◌≤◌, List, [], ◌++◌, Option, All, sym, ap, ◌∙◌, append_assoc, arith}
use Rattle.std.proofs.lemmas.List.Elements.{recursion_from_All}
use Rattle.lr_rules.specs.declared.path.Path.{Path}
use Rattle.lr_rules.specs.declared.clock.Clock.{Clock}
use Rattle.lr_rules.specs.declared.fault.Fault.{Fault}
use Rattle.lr_host.specs.declared.entry.Entry.{Entry}
use Rattle.lr_host.specs.declared.journal.Journal.{Journal}
use Rattle.lr_host.specs.Told.{Counts, NoneFell, Onward, Left}
use Rattle.lr_host.proofs.Left.{left_as, left_then}
use Rattle.lr_conf.specs.Meaning.{Meaning}
use Rattle.lr_host.specs.Quiet.{AreQuiet}
use Rattle.lr_host.proofs.Quiet.{quiet_both}
use Rattle.lr_host.specs.Counted.{calls_in, RoseBy, AreCounted, Went}
use Rattle.lr_host.proofs.Counts.{went_on}
use Rattle.lr_include.specs.Readers.{IsConfOrCall}
use Rattle.lr_include.specs.Stages.{Reads}
use Rattle.lr_include.specs.Lacking.{LacksReading}
use Rattle.lr_include.proofs.AllQuiet.{reads_quiet as confs_quiet, lacking_quiet}
use Rattle.lr_include.proofs.Scriptless.{none_scripted}
use Rattle.lr_laws_rotations.specs.Runs.{IsWholeRunBy}
use Rattle.lr_laws_rotations.proofs.Shapes.{quiet_run_by}

-- ---- the faults, and the counts

-- a reading tells no more failed calls than the count of them rose by
pub reading_counted : (fs : List Fault) (j k : Counts) → All IsConfOrCall fs → RoseBy (calls_in fs) j.faults k.faults → NoneFell j k → AreCounted fs j k
reading_counted fs j k only rose le =
    let n = none_scripted fs (recursion_from_All IsConfOrCall fs only) in
    record {
      calls = rose;
      scripts = (let z = n.0 in let fell : j.bad_ends ≤ k.bad_ends = le.1 in omega (arith, z, fell));
      none_around = n.1;
    }

-- and then the run went so
pub both_went : (earlier faults all : List Fault) (j k l : Counts) → earlier ≡ faults → AreCounted faults j k → Onward j k → Went earlier all k l → Went [] all j l
both_went earlier faults all j k l e a h w = went_on [] earlier all j k l (record { adds = record { added = faults; after_is = e; are_counted = a }; onward = h }) w

-- ---- the shape of the whole

-- quiet entries before a run are some of it
pub run_behind : (clock : Clock) (xs ys : List Entry) → AreQuiet xs → IsWholeRunBy clock ys → IsWholeRunBy clock (xs ++ ys)
run_behind clock xs ys q r = record {
  front = xs ++ r.front;
  rest = r.rest;
  joined = ap (λ us. xs ++ us) r.joined ∙ sym (append_assoc xs r.front r.rest);
  quiet = quiet_both xs r.front q r.quiet;
  goes_on = r.goes_on;
}

pub confs_shape : (clock : Clock) (confs : List Path) (m : Meaning) {o k n : Option Journal} → Left (Reads confs m) o k → Left (IsWholeRunBy clock) k n → Left (IsWholeRunBy clock) o n
confs_shape clock confs m a b = left_then a b (λ xs ys p q. run_behind clock xs ys (confs_quiet confs m xs p) q)

pub lacking_shape : (clock : Clock) (confs : List Path) {o n : Option Journal} → Left (LacksReading confs) o n → Left (IsWholeRunBy clock) o n
lacking_shape clock confs l = left_as l (λ ts h. quiet_run_by clock ts (lacking_quiet confs ts h))
