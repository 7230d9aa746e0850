use Rattle.lr_laws.proofs.Example.{lowest_journal, lowest_steady, lowest_lost, lowest_unsafe}
use Rattle.lr_laws.proofs.worked.lowest_first_loses.Goals as goal

pub returns-clause-journal : goal.returns-clause-journal
returns-clause-journal c = lowest_journal

pub returns-clause-steady : goal.returns-clause-steady
returns-clause-steady c = lowest_steady

pub returns-clause-lost : goal.returns-clause-lost
returns-clause-lost c = lowest_lost

pub returns-clause-not_safe : goal.returns-clause-not_safe
returns-clause-not_safe c = lowest_unsafe
