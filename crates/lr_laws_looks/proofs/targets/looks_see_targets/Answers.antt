use Rattle.lr_laws_looks.proofs.Seen.{targets_seen, targets_have_names}
use Rattle.lr_laws_looks.proofs.targets.looks_see_targets.Goals as goal

pub returns-clause-seen : goal.returns-clause-seen
returns-clause-seen c = λ reserved. targets_seen

pub returns-clause-names : goal.returns-clause-names
returns-clause-names c = λ reserved. targets_have_names
