use Rattle.lr_laws.proofs.Moments.{moment_forward}
use Rattle.lr_laws.proofs.Tame.{forward_writer, forward_quiet, forward_aside}
use Rattle.lr_laws.proofs.forward.moment_is_forward.Goals as goal

pub returns-clause-moment : goal.returns-clause-moment
returns-clause-moment c = moment_forward

pub returns-clause-writers : goal.returns-clause-writers
returns-clause-writers c = forward_writer

pub returns-clause-quiet : goal.returns-clause-quiet
returns-clause-quiet c = forward_quiet

pub returns-clause-aside : goal.returns-clause-aside
returns-clause-aside c = forward_aside
