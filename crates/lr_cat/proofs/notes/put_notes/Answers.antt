use Rattle.std.proofs.Common.{sym, subst}
use Rattle.std.specs.Prelude.{OnOk}
use Rattle.lr_report.specs.Puts.{Took, TookPart}
use Rattle.lr_cat.specs.Outcome.{notes_of}
use Rattle.lr_cat.proofs.notes.put_notes.Goals as goal

pub returns-in-NoLog-clause-whole : goal.returns-in-NoLog-clause-whole
returns-in-NoLog-clause-whole g c = subst (λ o. OnOk c.put_three.result (Took (notes_of c.args.log.now o) (g.N.Sink.taken c.args.notes.now) (g.N.Sink.taken c.put_three.new.out))) (sym c.in-NoLog.is)
    (subst (λ b. OnOk c.put_three.result (Took (notes_of b Rattle.lr_cat.specs.declared.outcome.CatOutcome.TheVariants.NoLog) (g.N.Sink.taken c.args.notes.now) (g.N.Sink.taken c.put_three.new.out))) c.bytes.ensures.bytes c.put_three.ensures.whole)

pub returns-in-NoLog-clause-part : goal.returns-in-NoLog-clause-part
returns-in-NoLog-clause-part g c = subst (λ o. TookPart (notes_of c.args.log.now o) (g.N.Sink.taken c.args.notes.now) (g.N.Sink.taken c.put_three.new.out)) (sym c.in-NoLog.is)
    (subst (λ b. TookPart (notes_of b Rattle.lr_cat.specs.declared.outcome.CatOutcome.TheVariants.NoLog) (g.N.Sink.taken c.args.notes.now) (g.N.Sink.taken c.put_three.new.out)) c.bytes.ensures.bytes c.put_three.ensures.part)

pub returns-in-Held-clause-whole : goal.returns-in-Held-clause-whole
returns-in-Held-clause-whole g c = subst (λ o. OnOk c.put_said-in-Held.result (Took (notes_of c.args.log.now o) (g.N.Sink.taken c.args.notes.now) (g.N.Sink.taken c.put_said-in-Held.new.out))) (sym c.in-Held.is) c.put_said-in-Held.ensures.whole

pub returns-in-Held-clause-part : goal.returns-in-Held-clause-part
returns-in-Held-clause-part g c = subst (λ o. TookPart (notes_of c.args.log.now o) (g.N.Sink.taken c.args.notes.now) (g.N.Sink.taken c.put_said-in-Held.new.out)) (sym c.in-Held.is) c.put_said-in-Held.ensures.part

pub returns-in-OutOfMemory-clause-whole : goal.returns-in-OutOfMemory-clause-whole
returns-in-OutOfMemory-clause-whole g c = subst (λ o. OnOk c.put_said-in-OutOfMemory.result (Took (notes_of c.args.log.now o) (g.N.Sink.taken c.args.notes.now) (g.N.Sink.taken c.put_said-in-OutOfMemory.new.out))) (sym c.in-OutOfMemory.is) c.put_said-in-OutOfMemory.ensures.whole

pub returns-in-OutOfMemory-clause-part : goal.returns-in-OutOfMemory-clause-part
returns-in-OutOfMemory-clause-part g c = subst (λ o. TookPart (notes_of c.args.log.now o) (g.N.Sink.taken c.args.notes.now) (g.N.Sink.taken c.put_said-in-OutOfMemory.new.out)) (sym c.in-OutOfMemory.is) c.put_said-in-OutOfMemory.ensures.part
