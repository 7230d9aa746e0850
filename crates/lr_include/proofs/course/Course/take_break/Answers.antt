use Rattle.std.proofs.Common.{refl, ◌∙◌}
use Rattle.lr_conf.specs.Fold.{entered}
use Rattle.lr_include.proofs.Stages.{took_break, still_some}
use Rattle.lr_include.proofs.course.Course.take_break.Goals as goal

pub leave-requires : goal.leave-requires
leave-requires c = still_some (entered c.args.self.now.layer) (entered c.cut_file.new.self) (c.cut_file.ensures.files ∙ c.in_ok-tell_fault.ensures.entered_are) c.requires

pub returns : goal.returns
returns c = took_break c.args.self.now c.tell_fault.new.self _ c.cut_file.new.self c.args.fault c.in_ok-tell_fault.ensures c.cut_file.ensures.means c.cut_file.ensures.passes c.cut_file.ensures.files
    (refl, refl, refl, refl, refl) c.leave.ensures.same c.leave.ensures.alike c.leave.ensures.files c.requires
