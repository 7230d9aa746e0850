use Rattle.lr_laws_plan.proofs.Value.{tried_none, try_why}
use Rattle.lr_laws_plan.proofs.reaching.try_is_reached.Goals as goal

pub returns : goal.returns
returns c = record { none_ends = tried_none; why = try_why }
