use Rattle.std.proofs.Common.{length}
use Rattle.lr_kept.proofs.Beginning.{same_fronts}
use Rattle.lr_kept.proofs.fronts.fronts_of.Goals as goal

pub returns-clause-fronts : goal.returns-clause-fronts
returns-clause-fronts c = same_fronts c.args.logs.now c.args.choices.now (length c.args.logs.now) c.in_ok-fronts.fronts.items c.sort_fronts.new.fronts.items c.sort_fronts.ensures.same c.in_ok-fronts.ensures
