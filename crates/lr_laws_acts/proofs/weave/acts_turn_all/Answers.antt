use Rattle.lr_laws_acts.proofs.Parting.{done_turns}
use Rattle.lr_laws_acts.proofs.weave.acts_turn_all.Goals as goal

pub returns : goal.returns
returns c = done_turns
