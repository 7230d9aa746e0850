use Rattle.lr_move.proofs.Examples.{dir_sync_journal, name_lost}
use Rattle.lr_move.proofs.worked.unsynced_name_is_not_let_go_whole.Goals as goal

pub returns-clause-journal : goal.returns-clause-journal
returns-clause-journal c = dir_sync_journal

pub returns-clause-lost : goal.returns-clause-lost
returns-clause-lost c = name_lost
