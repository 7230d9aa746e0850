use Rattle.std.proofs.Common.{refl}
use Rattle.lr_include.proofs.Stages.{told_fault}
use Rattle.lr_include.proofs.course.Course.tell_fault.Goals as goal

pub returns : goal.returns
returns c = told_fault c.args.self.now (record { alloc = c.args.self.now.alloc; layer = c.spoil.new.self; faults = c.args.self.now.faults; files = c.args.self.now.files; bytes = c.args.self.now.bytes; exposed = c.args.self.now.exposed; todo = c.args.self.now.todo }) _ c.args.fault (refl, refl, refl, refl, refl)
    c.spoil.ensures.means c.spoil.ensures.passes c.spoil.ensures.files refl c.in_ok-push.ensures.items (record { files = refl; bytes = refl; exposed = refl; todo = refl })
