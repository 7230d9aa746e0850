use Rattle.std.proofs.Common.{◌≡◌}
use Rattle.lr_laws.proofs.Whole.{whole_at}
use Rattle.lr_laws.proofs.Behind.{written_settled}
use Rattle.lr_laws.proofs.durable.state_stays_whole.Goals as goal

pub returns-clause-whole : goal.returns-clause-whole
returns-clause-whole c = λ state text p q es. whole_at state (λ bytes. bytes ≡ text) p q es

pub returns-clause-settled : goal.returns-clause-settled
returns-clause-settled c = written_settled
