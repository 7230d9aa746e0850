use Rattle.std.proofs.Common.{OnOk, sym, subst}
use Rattle.lr_include.specs.declared.task.ReadPiece.{ReadPiece}
use Rattle.lr_include.specs.Course.{TakesPiece}
use Rattle.lr_include.proofs.course.Course.take_open.Goals as goal

pub returns-in-Item : goal.returns-in-Item
returns-in-Item c = subst (λ (p : ReadPiece). OnOk c.take_item.result (TakesPiece c.args.self.now c.take_item.new.self p)) (sym c.in-Item.is) c.take_item.ensures

pub returns-in-Fault : goal.returns-in-Fault
returns-in-Fault c = subst (λ (p : ReadPiece). OnOk c.take_fault.result (TakesPiece c.args.self.now c.take_fault.new.self p)) (sym c.in-Fault.is) c.take_fault.ensures

pub returns-in-End : goal.returns-in-End
returns-in-End c = subst (λ (p : ReadPiece). OnOk c.take_end.result (TakesPiece c.args.self.now c.take_end.new.self p)) (sym c.in-End.is) c.take_end.ensures

pub returns-in-Break : goal.returns-in-Break
returns-in-Break c = subst (λ (p : ReadPiece). OnOk c.take_break.result (TakesPiece c.args.self.now c.take_break.new.self p)) (sym c.in-Break.is) c.take_break.ensures
