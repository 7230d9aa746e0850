use Rattle.std.proofs.Common.{◌∷◌, sym, subst}
use Rattle.lr_rules.proofs.Results.{on_err}
use Rattle.lr_include.specs.declared.task.Task.{Task}
use Rattle.lr_include.specs.Course.{GoesOn}
use Rattle.lr_include.proofs.Readers.{on_ok_as}
use Rattle.lr_include.proofs.Stages.{line_turned}
use Rattle.lr_host.specs.Told.{Left}
use Rattle.lr_include.specs.Lacking.{LacksFrom}
use Rattle.lr_include.proofs.Lacking.{on_err_as, lacks_here}
use Rattle.lr_include.proofs.course.Course.turn.Goals as goal

pub returns-in-Line-clause-told : goal.returns-in-Line-clause-told
returns-in-Line-clause-told g c = on_ok_as c.take_piece.result _ _ c.take_piece.ensures (λ t s st.
    subst (λ (x : Task). GoesOn (record s { todo = x ∷ s.todo }) c.take_piece.new.self (g.H.Host.told c.args.host.now) (g.H.Host.told c.args.host.now) (g.H.Host.counts c.args.host.now).faults (g.H.Host.counts c.args.host.now).faults) (sym c.in-Line.is) (line_turned c.args.self.now c.take_piece.new.self c.in-Line.piece s _ _ t st))

pub returns-in-Ask-clause-told : goal.returns-in-Ask-clause-told
returns-in-Ask-clause-told g c = on_ok_as c.turn_ask.result _ _ c.turn_ask.ensures.told (λ f s st.
    subst (λ (x : Task). GoesOn (record s { todo = x ∷ s.todo }) c.turn_ask.new.self (g.H.Host.told c.args.host.now) (g.H.Host.told c.turn_ask.new.host) (g.H.Host.counts c.args.host.now).faults (g.H.Host.counts c.turn_ask.new.host).faults) (sym c.in-Ask.is) (f s st))

pub returns-in-Name-clause-told : goal.returns-in-Name-clause-told
returns-in-Name-clause-told g c = on_ok_as c.turn_name.result _ _ c.turn_name.ensures.told (λ f s st.
    subst (λ (x : Task). GoesOn (record s { todo = x ∷ s.todo }) c.turn_name.new.self (g.H.Host.told c.args.host.now) (g.H.Host.told c.turn_name.new.host) (g.H.Host.counts c.args.host.now).faults (g.H.Host.counts c.turn_name.new.host).faults) (sym c.in-Name.is) (f s st))

pub returns-in-Line-clause-lacking : goal.returns-in-Line-clause-lacking
returns-in-Line-clause-lacking g c = on_err c.take_piece.result _ (λ s st. lacks_here (record s { todo = c.args.task ∷ s.todo }) _)

pub returns-in-Ask-clause-lacking : goal.returns-in-Ask-clause-lacking
returns-in-Ask-clause-lacking g c = on_err_as c.turn_ask.result _ _ c.turn_ask.ensures.lacking (λ f s st.
    subst (λ (x : Task). Left (LacksFrom (record s { todo = x ∷ s.todo })) (g.H.Host.told c.args.host.now) (g.H.Host.told c.turn_ask.new.host)) (sym c.in-Ask.is) (f s st))

pub returns-in-Name-clause-lacking : goal.returns-in-Name-clause-lacking
returns-in-Name-clause-lacking g c = on_err_as c.turn_name.result _ _ c.turn_name.ensures.lacking (λ f s st.
    subst (λ (x : Task). Left (LacksFrom (record s { todo = x ∷ s.todo })) (g.H.Host.told c.args.host.now) (g.H.Host.told c.turn_name.new.host)) (sym c.in-Name.is) (f s st))
