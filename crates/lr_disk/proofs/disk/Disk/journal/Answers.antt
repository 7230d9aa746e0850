use Rattle.std.proofs.Common.{subst}
use Rattle.lr_host.specs.World.{past}
use Rattle.lr_host.specs.Opening.{IsJournal}
use Rattle.lr_disk.proofs.disk.Disk.journal.Goals as goal

pub returns-clause-journal : goal.returns-clause-journal
returns-clause-journal c = subst (λ j. IsJournal (past j)) c.self.view_is c.self.invariant.journal
