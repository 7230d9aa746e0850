use Rattle.lr_laws_looks.proofs.Kept.{kept_has_none, kept_meets_none}
use Rattle.lr_laws_looks.proofs.targets.kept_are_apart.Goals as goal

pub returns-clause-free : goal.returns-clause-free
returns-clause-free c = λ reserved rules sets faults ts f path s kept i named. kept_has_none rules sets faults ts s f kept path i named

pub returns-clause-meet : goal.returns-clause-meet
returns-clause-meet c = λ reserved rules sets faults ts clock decide f t s kept i ne m. kept_meets_none rules sets faults ts s f kept clock decide t i ne m
