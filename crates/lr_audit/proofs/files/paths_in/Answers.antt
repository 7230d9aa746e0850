use Rattle.lr_audit.proofs.Filing.{paths_more}
use Rattle.lr_audit.proofs.files.paths_in.Goals as goal

pub loop-name-preserved : goal.loop-name-preserved
loop-name-preserved c = record { paths = paths_more c.args.dir.now c.args.names.now c.loop-name.name-index c.name-item.result c.loop-name.paths.items c.add_path.new.paths.items c.name-item.is c.loop-name-test.true c.loop-name.invariant.paths c.in_ok-add_path.ensures }
