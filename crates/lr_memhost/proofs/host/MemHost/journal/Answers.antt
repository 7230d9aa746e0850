use Rattle.std.proofs.Common.{subst}
use Rattle.lr_host.specs.World.{past}
use Rattle.lr_host.specs.Opening.{IsJournal}
use Rattle.lr_memhost.proofs.host.MemHost.journal.Goals as goal

pub returns-clause-journal : goal.returns-clause-journal
returns-clause-journal c = subst (λ m. IsJournal (past m.journal)) c.self.view_is c.journal.ensures.journal
