use Rattle.std.proofs.Common.{refl}
use Rattle.lr_conf.specs.Fold.{entered}
use Rattle.lr_include.proofs.Stages.{took_end, still_some}
use Rattle.lr_include.proofs.course.Course.take_end.Goals as goal

pub leave-requires : goal.leave-requires
leave-requires c = still_some (entered c.args.self.now.layer) (entered c.close.new.self.layer) c.in_ok-close.ensures.entered_are c.requires

pub returns : goal.returns
returns c = took_end c.args.self.now c.close.new.self _ c.in_ok-close.ensures (refl, refl, refl, refl, refl) c.leave.ensures.same c.leave.ensures.alike c.leave.ensures.files c.requires
