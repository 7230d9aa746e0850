use Rattle.lr_glob.proofs.Gathering.{join_added, join_refused, on_ok_as}
use Rattle.lr_glob.proofs.picking.add_join.Goals as goal

pub returns-in_ok-push-in-Ok : goal.returns-in_ok-push-in-Ok
returns-in_ok-push-in-Ok c = join_added c.args.dir.now c.args.name.now c.in-Ok.path c.args.into.now.items c.push.new.self.items c.in-Ok.ensures.0 c.in-Ok.ensures.1 c.in_ok-push-in-Ok.ensures.items

pub returns-in-Err : goal.returns-in-Err
returns-in-Err c = on_ok_as c.passed_over.result c.passed_over.ensures (λ other. join_refused c.args.dir.now c.args.name.now c.in-Err.fault c.args.into.now.items other c.in-Err.ensures)
