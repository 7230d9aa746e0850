-- How a caller comes to the shape of a run that changed nothing.
use Rattle.std.proofs.Common.{refl, sym, List, [], append-nil}
use Rattle.lr_rules.specs.declared.clock.Clock.{Clock}
use Rattle.lr_rules.specs.declared.path.Path.{Path}
use Rattle.lr_rules.specs.declared.rules.Rules.{Rules}
use Rattle.lr_host.specs.declared.entry.Entry.{Entry}
use Rattle.lr_host.specs.Quiet.{AreQuiet}
use Rattle.lr_laws_rotations.specs.Runs.{AllTurnsBy, not_yet, IsWholeRunBy}

-- looks alone
pub looks_turn_by : (state : Path) (clock : Clock) (rules : Rules) (ts : List Entry) → AreQuiet ts → AllTurnsBy state clock rules ts
looks_turn_by state clock rules ts quiet = record { looks = ts; acts = []; joined = sym (append-nil ts); quiet = quiet; targets = []; seen = tt; all = tt; each = λ t i. absurd i }

pub quiet_run_by : (clock : Clock) (ts : List Entry) → AreQuiet ts → IsWholeRunBy clock ts
quiet_run_by clock ts quiet = record { front = ts; rest = []; joined = sym (append-nil ts); quiet = quiet; goes_on = not_yet refl }
