-- The rotations of logs that were seen fit.
use Rattle.std.proofs.Common.{◌≡◌, inl, inr, refl, Option, Some, None, List, [], ◌∷◌, reverse}
use Rattle.lr_rules.specs.Path.{path_fault, parent_of}
use Rattle.lr_rules.specs.declared.clock.Clock.{Clock}
use Rattle.lr_rules.specs.declared.rules.Rules.{Rules}
use Rattle.lr_host.specs.declared.journal.Journal.{Journal}
use Rattle.lr_host.specs.Quiet.{AreQuiet, Quiet, here, wrote, looked}
use Rattle.lr_host.specs.declared.entry.Entry.TheVariants as entry
use Rattle.lr_host.specs.Opening.{IsJournal}
use Rattle.lr_host.specs.World.{Past, past, world, names}
use Rattle.lr_host.specs.Told.{Left, not_told, is_told, Can, WhereTold}
use Rattle.lr_host.proofs.Lists.{from_reverse}
use Rattle.lr_host.proofs.Looked.{seen_file}
use Rattle.lr_host.proofs.More.{directory_more}
use Rattle.lr_host.proofs.Quiet.{IsAny, since_any, moment, quiet_more, quiet_still, still_in_order}
use Rattle.lr_host.proofs.Left.{left_as}
use Rattle.lr_laws_rotations.specs.Target.{Target}
use Rattle.lr_laws_rotations.specs.Apart.{TargetsHaveNames}
use Rattle.lr_laws_rotations.specs.Seen.{IsLogSeen, AreLogsSeen}
use Rattle.lr_laws_rotations.proofs.CallsFit.{log_can}
use Rattle.lr_laws_rotations.proofs.Directories.{log_dir}
use Rattle.lr_laws_rotations.proofs.Moments.{saw_one}
use Rattle.lr_laws_family.specs.Shown.{SawFile}
use Rattle.lr_laws_acts.specs.Fitting.{AreFit, TargetsHavePaths}

pub quiet_disk : (p q : Past) → Quiet IsAny p q → IsJournal p → IsJournal q
quiet_disk p _ here h = h
quiet_disk p _ (wrote {q = q} w i f none) h = (quiet_disk p q w h, f)
quiet_disk p _ (looked {q = q} w i f none) h = (quiet_disk p q w h, f)

-- the log was seen in its directory, so it can be made anew
seen_makes : (rules : Rules) (clock : Clock) (t : Target) (o m : Option Journal) → path_fault t.log ≡ None → WhereTold o IsJournal → Left (λ us. AreQuiet us × IsLogSeen rules clock us t) o m → Can m (entry.Makes t.log None)
seen_makes rules clock t o m valid disk not_told = record { can = tt }
seen_makes rules clock t o m valid disk (is_told {j = j} {k = k} {es = es} made h) = record {
  can = let saw : SawFile t.log (reverse es) = saw_one t.log (reverse es) h.1.log_seen in
      let at = moment IsAny (past j) (past k) (entry.Look t.log (Some saw.0)) es (since_any (past j) (past k) es made) made (still_in_order es (quiet_still (reverse es) h.0)) (from_reverse (entry.Look t.log (Some saw.0)) es saw.2) in
      directory_more (names (world at.at)) (names (world (past k))) (parent_of t.log) (quiet_more IsAny at.at (past k) at.until)
      (log_dir t at.at valid (quiet_disk (past j) at.at at.since disk) (seen_file (world at.at) (names (world at.at) t.log) saw.0 at.fits saw.1));
}

pub seen_fit : (rules : Rules) (clock : Clock) (ts : List Target) (o m : Option Journal) → TargetsHaveNames ts → TargetsHavePaths ts → WhereTold o IsJournal → Left (λ us. AreQuiet us × AreLogsSeen rules clock us ts) o m → AreFit m ts
seen_fit rules clock [] o m h paths disk left = tt
seen_fit rules clock (t ∷ ts) o m h paths disk left = (
  record { names = h.0; fits = log_can rules clock t o m disk (left_as left (λ us s. (s.0, s.1.0))); anew = seen_makes rules clock t o m (paths t (inl refl)) disk (left_as left (λ us s. (s.0, s.1.0))) },
  seen_fit rules clock ts o m h.1 (λ u i. paths u (inr i)) disk (left_as left (λ us s. (s.0, s.1.1))),
)
