use Rattle.std.proofs.Common.{sym, subst}
use Rattle.lr_include.specs.declared.visit.Visit.{Visit}
use Rattle.lr_include.specs.Stages.{after_ask, telling}
use Rattle.lr_include.specs.Course.{StandsAt}
use Rattle.lr_rules.specs.declared.fault.ConfKind.{ConfKind}
use Rattle.lr_conf.specs.Meaning.{conf}
use Rattle.lr_include.proofs.Readers.{on_ok_as}
use Rattle.lr_include.proofs.Stages.{told_stands}
use Rattle.lr_include.proofs.course.Course.after_ask.Goals as goal

pub returns-in-Unseen : goal.returns-in-Unseen
returns-in-Unseen c = on_ok_as c.tell_fault.result _ _ c.tell_fault.ensures (λ t s st. subst (λ (v : Visit). StandsAt c.tell_fault.new.self (after_ask s c.args.ask v s.todo)) (sym c.in-Unseen.is) (told_stands c.args.self.now c.tell_fault.new.self _ s t st))

pub returns-in-Nothing : goal.returns-in-Nothing
returns-in-Nothing c = on_ok_as c.tell_at.result _ _ c.tell_at.ensures (λ t s st. subst (λ (v : Visit). StandsAt c.tell_at.new.self (after_ask s c.args.ask v s.todo)) (sym c.in-Nothing.is) (told_stands c.args.self.now c.tell_at.new.self _ s t st))

pub returns-in-Dir : goal.returns-in-Dir
returns-in-Dir c = on_ok_as c.tell_at-in-Dir.result _ _ c.tell_at-in-Dir.ensures (λ t s st. subst (λ (v : Visit). StandsAt c.tell_at-in-Dir.new.self (after_ask s c.args.ask v s.todo)) (sym c.in-Dir.is) (told_stands c.args.self.now c.tell_at-in-Dir.new.self _ s t st))

pub returns-in-Unlisted : goal.returns-in-Unlisted
returns-in-Unlisted c = on_ok_as c.tell_fault-in-Unlisted.result _ _ c.tell_fault-in-Unlisted.ensures (λ t s st. subst (λ (v : Visit). StandsAt c.tell_fault-in-Unlisted.new.self (after_ask s c.args.ask v s.todo)) (sym c.in-Unlisted.is) (told_stands c.args.self.now c.tell_fault-in-Unlisted.new.self _ s t st))

pub returns-in-File : goal.returns-in-File
returns-in-File c = on_ok_as c.tell_at-in-File.result _ _ c.tell_at-in-File.ensures (λ t s st.
    subst (λ (v : Visit). StandsAt c.tell_at-in-File.new.self (after_ask s c.args.ask v s.todo)) (sym c.in-File.is)
    (subst (λ (k : ConfKind). StandsAt c.tell_at-in-File.new.self (telling s (conf c.args.ask.file k c.args.ask.line) s.todo)) (c.limit_kind-kind.ensures s st) (told_stands c.args.self.now c.tell_at-in-File.new.self _ s t st)))

pub returns-in-Exposed : goal.returns-in-Exposed
returns-in-Exposed c = on_ok_as c.tell_exposed.result _ _ c.tell_exposed.ensures (λ f s st. subst (λ (v : Visit). StandsAt c.tell_exposed.new.self (after_ask s c.args.ask v s.todo)) (sym c.in-Exposed.is) (f s st))
