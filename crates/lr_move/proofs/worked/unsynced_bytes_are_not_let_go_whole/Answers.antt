use Rattle.lr_move.proofs.Examples.{file_sync_journal, bytes_lost}
use Rattle.lr_move.proofs.worked.unsynced_bytes_are_not_let_go_whole.Goals as goal

pub returns-clause-journal : goal.returns-clause-journal
returns-clause-journal c = file_sync_journal

pub returns-clause-lost : goal.returns-clause-lost
returns-clause-lost c = bytes_lost
