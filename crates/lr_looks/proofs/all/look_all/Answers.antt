use Rattle.std.proofs.Common.{◌∙◌}
use Rattle.lr_looks.proofs.Built.{asks_all, can_plan}
use Rattle.lr_looks.proofs.Whole.{none_looked, some_looked}
use Rattle.lr_looks.proofs.all.look_all.Goals as goal

pub returns-in_err-reserved-clause-some : goal.returns-in_err-reserved-clause-some
returns-in_err-reserved-clause-some g c = none_looked c.from_residual.result c.args.state.now c.args.rules.now.sets _

pub look_at_unreserved-requires : goal.look_at_unreserved-requires
look_at_unreserved-requires g c = asks_all c.args.rules.now.sets c.args.rules.now.limits

pub returns-in_err-looks-clause-some : goal.returns-in_err-looks-clause-some
returns-in_err-looks-clause-some g c = some_looked c.from_residual-in_err-looks.result c.args.state.now _ c.args.rules.now.sets (c.deref.ensures.value ∙ c.in_ok-reserved.ensures) c.in_err-looks.ensures.some

pub returns-clause-told : goal.returns-clause-told
returns-clause-told g c = rw (c.deref.ensures.value ∙ c.in_ok-reserved.ensures) at c.in_ok-looks.ensures.told

pub returns-clause-planned : goal.returns-clause-planned
returns-clause-planned g c = can_plan c.args.rules.now.sets c.in_ok-looks.looks.sets c.args.rules.now.limits c.in_ok-looks.ensures.ready c.in_ok-looks.ensures.many
