use Rattle.lr_laws_looks.proofs.Free.{targets_free}
use Rattle.lr_laws_looks.proofs.targets.targets_are_free.Goals as goal

pub returns : goal.returns
returns c = λ reserved. targets_free
