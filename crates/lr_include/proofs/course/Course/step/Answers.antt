use Rattle.std.proofs.Common.{refl}
use Rattle.lr_rules.proofs.Results.{on_err}
use Rattle.lr_include.proofs.Stages.{stepped, popped_none}
use Rattle.lr_include.proofs.Lacking.{lacks_stepped}
use Rattle.lr_include.proofs.course.Course.step.Goals as goal

pub returns-in_ok-turn-in-Some-clause-told : goal.returns-in_ok-turn-in-Some-clause-told
returns-in_ok-turn-in-Some-clause-told g c = λ s st.
    stepped c.args.self.now (record { alloc = c.args.self.now.alloc; layer = c.args.self.now.layer; faults = c.args.self.now.faults; files = c.args.self.now.files; bytes = c.args.self.now.bytes; exposed = c.args.self.now.exposed; todo = c.pop.new.self })
    c.turn.new.self c.in-Some.task s _ _ _ _ refl refl refl refl refl c.in-Some.ensures.items c.in_ok-turn-in-Some.ensures.told st

pub returns-in-None-clause-told : goal.returns-in-None-clause-told
returns-in-None-clause-told g c = λ s st. popped_none c.args.self.now _ s _ _ refl refl refl refl refl c.in-None.ensures.items st

pub returns-in_err-turn-in-Some-clause-lacking : goal.returns-in_err-turn-in-Some-clause-lacking
returns-in_err-turn-in-Some-clause-lacking g c = on_err c.from_residual.result _ (λ s st.
    lacks_stepped c.args.self.now (record { alloc = c.args.self.now.alloc; layer = c.args.self.now.layer; faults = c.args.self.now.faults; files = c.args.self.now.files; bytes = c.args.self.now.bytes; exposed = c.args.self.now.exposed; todo = c.pop.new.self })
    c.in-Some.task s _ _ refl refl refl refl refl c.in-Some.ensures.items c.in_err-turn-in-Some.ensures.lacking st)
