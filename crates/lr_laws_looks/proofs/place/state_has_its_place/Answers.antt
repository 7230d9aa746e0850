use Rattle.lr_laws_looks.proofs.Placed.{state_placed}
use Rattle.lr_laws_looks.proofs.place.state_has_its_place.Goals as goal

pub returns : goal.returns
returns c = state_placed c.targets_are_free.ensures
