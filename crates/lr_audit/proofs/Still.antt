-- A call changes nothing: what it leaves are looks, listings and reads.
use Rattle.std.proofs.Common.{List, ◌++◌, Option, sym, subst}
use Rattle.std.specs.Prelude.{ℤ}
use Rattle.lr_host.specs.declared.entry.Entry.{Entry}
use Rattle.lr_host.specs.Quiet.{AreQuiet}
use Rattle.lr_host.proofs.Quiet.{quiet_both}
use Rattle.lr_due.specs.declared.tz.Zone.{Zone}
use Rattle.lr_include.proofs.AllQuiet.{reads_quiet}
use Rattle.lr_laws_looks.proofs.Quiet.{whole_quiet}
use Rattle.lr_report.specs.declared.outcome.Outcome.{Outcome}
use Rattle.lr_clock.proofs.Quiet.{clock_quiet, lacks_quiet}
use Rattle.lr_audited.specs.declared.line.Audit.{Audit}
use Rattle.lr_audit.specs.declared.words.Wanted.{Wanted}
use Rattle.lr_audit.specs.Came.{Came, call_entries, ShowsCame, CallEnds, no_clock, no_memory, audited}
use Rattle.lr_audit.proofs.Filing.{dirs_quiet}

-- all that a call leaves that came to something
pub came_quiet : (w : Wanted) (zone : Zone) (seconds : ℤ) (c : Came) → ShowsCame w zone seconds c → AreQuiet (call_entries c)
came_quiet w zone seconds c s =
    quiet_both c.of_clock (c.of_confs ++ (c.of_looks ++ c.of_files)) (clock_quiet zone seconds c.clock c.of_clock s.clock)
    (quiet_both c.of_confs (c.of_looks ++ c.of_files) (reads_quiet w.confs c.meaning c.of_confs s.confs.read)
    (quiet_both c.of_looks c.of_files (whole_quiet c.rules.sets c.looks.sets c.look_faults c.of_looks s.confs.looks.shown) (dirs_quiet c.dirs s.confs.saw.found c.file_faults c.of_files s.confs.saw.shown)))

pub ends_quiet : (w : Wanted) (zone : Zone) (seconds : ℤ) (audit : Option Audit) (outcome : Outcome) (came : Option Came) (ts : List Entry) → CallEnds w zone seconds audit outcome came ts → AreQuiet ts
ends_quiet w zone seconds audit outcome came ts (no_clock f a b e h) = lacks_quiet zone seconds f ts h
ends_quiet w zone seconds audit outcome came ts (no_memory a b e h) = h
ends_quiet w zone seconds audit outcome came ts (audited c a b e s t) = subst AreQuiet (sym t) (came_quiet w zone seconds c s)
