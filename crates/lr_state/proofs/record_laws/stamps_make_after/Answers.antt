use Rattle.lr_state.proofs.After.{stamps}
use Rattle.lr_state.proofs.record_laws.stamps_make_after.Goals as goal

pub returns : goal.returns
returns c = stamps
