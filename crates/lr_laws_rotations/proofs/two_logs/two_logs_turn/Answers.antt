use Rattle.lr_laws_rotations.proofs.TwoLogs.{any_part, alone, saved}
use Rattle.lr_laws_rotations.proofs.two_logs.two_logs_turn.Goals as goal

pub returns-clause-shape : goal.returns-clause-shape
returns-clause-shape c = any_part

pub returns-clause-alone : goal.returns-clause-alone
returns-clause-alone c = alone

pub returns-clause-saved : goal.returns-clause-saved
returns-clause-saved c = saved
