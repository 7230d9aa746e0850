use Rattle.std.proofs.Common.{refl, sym, ◌∙◌}
use Rattle.lr_include.proofs.Readers.{on_ok_as}
use Rattle.lr_include.proofs.Stages.{exposed_again, exposed_first}
use Rattle.lr_include.proofs.course.Course.tell_exposed.Goals as goal

pub returns-then-told : goal.returns-then-told
returns-then-told c = λ s st. exposed_again c.args.self.now c.args.file s (sym c.has-told.ensures ∙ c.if-told.true) st

pub returns : goal.returns
returns c = on_ok_as c.tell_fault.result _ _ c.tell_fault.ensures (λ t s st.
    exposed_first c.args.self.now _ c.tell_fault.new.self c.args.file s t (sym c.has-told.ensures ∙ c.if-told.false) refl refl refl refl refl c.in_ok-add.ensures st)
