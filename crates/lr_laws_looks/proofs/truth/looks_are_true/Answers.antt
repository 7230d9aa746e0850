use Rattle.lr_laws_looks.proofs.All.{looks_true}
use Rattle.lr_laws_looks.proofs.truth.looks_are_true.Goals as goal

pub returns : goal.returns
returns c = λ reserved. looks_true
