use Rattle.std.proofs.Common.{refl}
use Rattle.lr_include.proofs.Stages.{took_spoilt, on_ok_three}
use Rattle.lr_include.proofs.course.Course.take_fault.Goals as goal

pub returns : goal.returns
returns c = on_ok_three c.tell.result c.tell.ensures.layer c.tell.ensures.told c.tell.ensures.rest (λ layer told rest.
    took_spoilt c.args.self.now (record { alloc = c.args.self.now.alloc; layer = c.spoil.new.self; faults = c.args.self.now.faults; files = c.args.self.now.files; bytes = c.args.self.now.bytes; exposed = c.args.self.now.exposed; todo = c.args.self.now.todo }) c.tell.new.self c.args.line c.args.kind (refl, refl, refl, refl, refl)
    c.spoil.ensures.means c.spoil.ensures.passes c.spoil.ensures.files c.requires layer told rest)
