use Rattle.std.proofs.Common.{refl}
use Rattle.lr_include.proofs.Readers.{on_ok_as}
use Rattle.lr_include.proofs.Stages.{took_item}
use Rattle.lr_include.proofs.course.Course.take_item.Goals as goal

pub returns : goal.returns
returns c = on_ok_as c.tell_answer.result _ _ c.tell_answer.ensures (λ t.
    took_item c.args.self.now (record { alloc = c.args.self.now.alloc; layer = c.take-answer.new.self; faults = c.args.self.now.faults; files = c.args.self.now.files; bytes = c.args.self.now.bytes; exposed = c.args.self.now.exposed; todo = c.args.self.now.todo }) c.tell_answer.new.self c.args.item c.take-answer.result (refl, refl, refl, refl, refl)
    c.take-answer.ensures.files c.requires c.take-answer.ensures.means c.take-answer.ensures.asks c.take-answer.ensures.bans t)
