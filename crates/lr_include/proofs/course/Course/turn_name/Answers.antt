use Rattle.std.proofs.Common.{false, refl, ◌∷◌}
use Rattle.lr_rules.proofs.Results.{on_err}
use Rattle.lr_include.specs.declared.task.Task.TheVariants as task
use Rattle.lr_include.proofs.Readers.{on_ok_as}
use Rattle.lr_include.proofs.Stages.{name_turned, name_barred, shown_at}
use Rattle.lr_include.specs.Stages.{room_for}
use Rattle.lr_include.proofs.Lacking.{lacks_here, name_lacks, part_at, name_made_lacks}
use Rattle.lr_include.proofs.course.Course.turn_name.Goals as goal

pub returns-then-barred-clause-told : goal.returns-then-barred-clause-told
returns-then-barred-clause-told g c = λ s st. name_barred s c.args.self.now c.args.ask _ _ ((c.in_ok-barred.ensures s st).0 c.if-barred.true) st

pub returns-clause-told : goal.returns-clause-told
returns-clause-told g c = on_ok_as c.after_name.result _ _ c.after_name.ensures (λ f s st.
    name_turned s c.after_name.new.self c.args.ask c.in_ok-visit.visit _ _ c.in_ok-visit.ensures.counts.0.0 c.in_ok-visit.ensures.cause (λ bars. let is = (c.in_ok-barred.ensures s st).1 bars in absurd (cc (is, c.if-barred.false)))
    (shown_at c.args.ask.path false false _ (room_for s) c.in_ok-visit.visit refl (c.room_for-room.ensures.room s st) c.in_ok-visit.ensures.told) (f s st))

pub returns-in_err-barred-clause-lacking : goal.returns-in_err-barred-clause-lacking
returns-in_err-barred-clause-lacking g c = on_err c.from_residual.result _ (λ s st. lacks_here (record s { todo = task.Name c.args.ask ∷ s.todo }) _)

pub returns-in_err-visit-clause-lacking : goal.returns-in_err-visit-clause-lacking
returns-in_err-visit-clause-lacking g c = on_err c.from_residual-in_err-visit.result _ (λ s st. name_lacks s c.args.ask (λ bars. let is = (c.in_ok-barred.ensures s st).1 bars in absurd (cc (is, c.if-barred.false))) (part_at c.args.ask.path _ (room_for s) (c.room_for-room.ensures.room s st) c.in_err-visit.ensures.lacking))

pub returns-clause-lacking : goal.returns-clause-lacking
returns-clause-lacking g c = on_err c.after_name.result _ (λ s st. name_made_lacks s c.args.ask c.in_ok-visit.visit (λ bars. let is = (c.in_ok-barred.ensures s st).1 bars in absurd (cc (is, c.if-barred.false)))
    (shown_at c.args.ask.path false false _ (room_for s) c.in_ok-visit.visit refl (c.room_for-room.ensures.room s st) c.in_ok-visit.ensures.told))
