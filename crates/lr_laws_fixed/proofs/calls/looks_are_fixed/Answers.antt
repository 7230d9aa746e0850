use Rattle.lr_laws_fixed.proofs.Whole.{looks_one}
use Rattle.lr_laws_fixed.proofs.calls.looks_are_fixed.Goals as goal

pub returns : goal.returns
returns c = λ reserved rules sets others faults more ts us vs ws h g e p q. looks_one reserved rules.sets sets others faults more ts us vs ws h g e p q rules.limits
