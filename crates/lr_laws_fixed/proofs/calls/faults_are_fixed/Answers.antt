use Rattle.lr_laws_fixed.proofs.Run.{ran_one}
use Rattle.lr_laws_fixed.proofs.calls.faults_are_fixed.Goals as goal

pub returns : goal.returns
returns c = ran_one
