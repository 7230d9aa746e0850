use Rattle.lr_stamps.proofs.Naming.{one_member, one_stamp_at}
use Rattle.lr_stamps.proofs.laws.stamps_are_names.Goals as goal

pub returns-clause-one_member : goal.returns-clause-one_member
returns-clause-one_member c = one_member

pub returns-clause-one_stamp : goal.returns-clause-one_stamp
returns-clause-one_stamp c = one_stamp_at
