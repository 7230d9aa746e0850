use Rattle.lr_laws_plan.proofs.Value.{carried_none, carried_saw, halt_why, halt_unseen}
use Rattle.lr_laws_plan.proofs.reaching.plan_is_reached.Goals as goal

pub returns : goal.returns
returns c = record { none_ends = carried_none; saw = carried_saw; why = halt_why; unseen = halt_unseen }
