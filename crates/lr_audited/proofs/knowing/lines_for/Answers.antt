use Rattle.lr_audited.proofs.Placing.{lines_more}
use Rattle.lr_audited.proofs.knowing.lines_for.Goals as goal

pub loop-file-preserved : goal.loop-file-preserved
loop-file-preserved c = record { lines = lines_more c.args.known.now.lines.items c.args.files.now c.loop-file.file-index c.file-item.result c.in_ok-line.line c.loop-file.lines.items c.push.new.self.items c.file-item.is c.loop-file-test.true c.loop-file.invariant.lines c.in_ok-line.ensures c.in_ok-push.ensures.items }
