use Rattle.std.proofs.Common.{sym, subst}
use Rattle.lr_rules.specs.declared.fault.ConfKind.{ConfKind}
use Rattle.lr_conf.specs.Meaning.{conf}
use Rattle.lr_include.specs.declared.visit.Visit.{Visit}
use Rattle.lr_include.specs.Stages.{behind_names, after_name, telling}
use Rattle.lr_include.specs.Course.{StandsAt}
use Rattle.lr_include.proofs.Readers.{on_ok_as}
use Rattle.lr_include.proofs.Stages.{told_stands, passed_stands}
use Rattle.lr_include.proofs.course.Course.after_name.Goals as goal

pub returns-in-Unseen : goal.returns-in-Unseen
returns-in-Unseen c = on_ok_as c.tell_fault.result _ _ c.tell_fault.ensures (λ t s st.
    subst (λ (v : Visit). StandsAt c.tell_fault.new.self (after_name s c.args.ask v s.todo)) (sym c.in-Unseen.is) (told_stands c.args.self.now c.tell_fault.new.self _ s t st))

pub returns-in-File : goal.returns-in-File
returns-in-File c = on_ok_as c.tell_at.result _ _ c.tell_at.ensures (λ t s st.
    let passed = passed_stands c.args.self.now c.pass_names.new.self s c.pass_names.ensures.rest c.pass_names.ensures.todo st in
    subst (λ (v : Visit). StandsAt c.tell_at.new.self (after_name s c.args.ask v s.todo)) (sym c.in-File.is)
    (subst (λ (k : ConfKind). StandsAt c.tell_at.new.self (telling s (conf c.args.ask.file k c.args.ask.line) (behind_names s.todo))) (c.limit_kind-kind.ensures (record s { todo = behind_names s.todo }) passed)
    (told_stands c.pass_names.new.self c.tell_at.new.self _ (record s { todo = behind_names s.todo }) t passed)))

pub returns-in-Exposed : goal.returns-in-Exposed
returns-in-Exposed c = on_ok_as c.tell_exposed.result _ _ c.tell_exposed.ensures (λ f s st. subst (λ (v : Visit). StandsAt c.tell_exposed.new.self (after_name s c.args.ask v s.todo)) (sym c.in-Exposed.is) (f s st))
