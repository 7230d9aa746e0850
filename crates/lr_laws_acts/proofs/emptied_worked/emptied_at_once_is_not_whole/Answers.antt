use Rattle.lr_laws_acts.proofs.EmptiedExamples.{once_journal, once_lost}
use Rattle.lr_laws_acts.proofs.emptied_worked.emptied_at_once_is_not_whole.Goals as goal

pub returns-clause-journal : goal.returns-clause-journal
returns-clause-journal c = once_journal

pub returns-clause-lost : goal.returns-clause-lost
returns-clause-lost c = once_lost
