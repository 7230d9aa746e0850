use Rattle.lr_laws_acts.proofs.TurnedExamples.{unlinked_journal, unlinked_lost, left_journal, left_stays}
use Rattle.lr_laws_acts.proofs.turned_worked.family_is_not_turned.Goals as goal

pub returns-clause-unlinked_journal : goal.returns-clause-unlinked_journal
returns-clause-unlinked_journal c = unlinked_journal

pub returns-clause-unlinked_lost : goal.returns-clause-unlinked_lost
returns-clause-unlinked_lost c = unlinked_lost

pub returns-clause-left_aside_journal : goal.returns-clause-left_aside_journal
returns-clause-left_aside_journal c = left_journal

pub returns-clause-left_aside_stays : goal.returns-clause-left_aside_stays
returns-clause-left_aside_stays c = left_stays
