use Rattle.lr_audit.proofs.Ordering.{dirs_once}
use Rattle.lr_audit.proofs.dirs.each_once.Goals as goal

pub returns : goal.returns
returns c = dirs_once c.args.dirs.now.items c.put_in_order.new.paths.items c.leave_once.new.paths.items c.put_in_order.ensures.same c.put_in_order.ensures.rising c.leave_once.ensures
