use Rattle.lr_laws_acts.specs.Emptied.{IsJobIn}
use Rattle.lr_laws_acts.proofs.Acts.{sets_copying, sets_cut_copying}
use Rattle.lr_laws_acts.proofs.emptied.acts_empty_copied.Goals as goal

pub returns-clause-done : goal.returns-clause-done
returns-clause-done c = λ jobs sets marks faults ts a d. sets_copying (IsJobIn jobs) sets a marks faults ts d

pub returns-clause-cut : goal.returns-clause-cut
returns-clause-cut c = λ jobs sets marks faults ts a d. sets_cut_copying (IsJobIn jobs) sets a marks faults ts d
