use Rattle.lr_laws_family.proofs.CopiesExamples.{in_order_whole, name_journal, name_lost, bytes_journal, bytes_lost, read_on_journal, read_on_lost}
use Rattle.lr_laws_family.proofs.copies_worked.copy_in_order_is_whole.Goals as goal

pub returns-clause-whole : goal.returns-clause-whole
returns-clause-whole c = in_order_whole

pub returns-clause-pending_name_journal : goal.returns-clause-pending_name_journal
returns-clause-pending_name_journal c = name_journal

pub returns-clause-pending_name_lost : goal.returns-clause-pending_name_lost
returns-clause-pending_name_lost c = name_lost

pub returns-clause-pending_bytes_journal : goal.returns-clause-pending_bytes_journal
returns-clause-pending_bytes_journal c = bytes_journal

pub returns-clause-pending_bytes_lost : goal.returns-clause-pending_bytes_lost
returns-clause-pending_bytes_lost c = bytes_lost

pub returns-clause-read_on_journal : goal.returns-clause-read_on_journal
returns-clause-read_on_journal c = read_on_journal

pub returns-clause-read_on_lost : goal.returns-clause-read_on_lost
returns-clause-read_on_lost c = read_on_lost
