use Rattle.lr_laws.proofs.Behind.{renewed_text}
use Rattle.lr_laws.proofs.durable.renewed_state_has_its_text.Goals as goal

pub returns : goal.returns
returns c = renewed_text
