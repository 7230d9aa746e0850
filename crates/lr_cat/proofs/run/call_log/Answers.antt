use Rattle.std.proofs.Common.{inl, refl, ap, ◌∙◌}
use Rattle.lr_rules.specs.declared.fault.Fault.TheVariants as fault
use Rattle.lr_cat.specs.declared.outcome.CatOutcome.TheVariants as outcome
use Rattle.lr_cat.specs.Came.{LogEnds, short}
use Rattle.lr_cat.specs.Internal.{answer_by}
use Rattle.lr_cat.proofs.Calling.{answer_counted, came_nowhere, clock_alone, log_ends, out_alone, own_fault}
use Rattle.lr_cat.proofs.run.call_log.Goals as goal

pub returns-in_default-clause-told : goal.returns-in_default-clause-told
returns-in_default-clause-told g c = came_nowhere (LogEnds c.args.wanted.now c.args.clock.now (record { rules = c.args.rules.now.sets; notices = c.args.notices; faults = c.args.faults }) c.args.rules.now c.args.family.now.naming outcome.OutOfMemory) (g.H.Host.told c.args.host.now) (g.K.Sink.taken c.args.out.now) (short refl refl (inl refl))

pub returns-clause-told : goal.returns-clause-told
returns-clause-told g c = log_ends c.args.wanted.now c.args.clock.now (record { rules = c.args.rules.now.sets; notices = c.args.notices; faults = c.args.faults }) c.args.rules.now c.args.family.now.naming c.put_log-done.result c.answer_of.result (g.H.Host.told c.args.host.now) (g.H.Host.told c.put_log-done.new.host) (g.K.Sink.taken c.args.out.now) (g.K.Sink.taken c.put_log-done.new.out)
    (c.answer_of.ensures ∙ ap (λ fs. answer_by c.args.notices fs c.put_log-done.result) (c.reserve.ensures.items ∙ c.into_vec-faults.ensures)) c.put_log-done.ensures.came c.put_log-done.ensures.stopped

pub returns-clause-counted : goal.returns-clause-counted
returns-clause-counted g c = answer_counted c.args.notices c.args.faults c.put_log-done.result c.answer_of.result (g.H.Host.counts c.args.host.now) (g.H.Host.counts c.put_log-done.new.host) (g.K.Sink.faults c.args.out.now) (g.K.Sink.faults c.put_log-done.new.out)
    (c.answer_of.ensures ∙ ap (λ fs. answer_by c.args.notices fs c.put_log-done.result) (c.reserve.ensures.items ∙ c.into_vec-faults.ensures)) c.requires.whole c.put_log-done.ensures.counts.0 c.put_log-done.ensures.cause

pub returns-clause-out : goal.returns-clause-out
returns-clause-out g c = λ h. own_fault fault.Out c.args.notices c.args.faults c.put_log-done.result c.answer_of.result (g.H.Host.counts c.args.host.now) (g.H.Host.counts c.put_log-done.new.host) (g.K.Sink.faults c.args.out.now) (g.K.Sink.faults c.put_log-done.new.out) out_alone
    (c.answer_of.ensures ∙ ap (λ fs. answer_by c.args.notices fs c.put_log-done.result) (c.reserve.ensures.items ∙ c.into_vec-faults.ensures)) c.requires.only c.put_log-done.ensures.cause h

pub returns-clause-clock : goal.returns-clause-clock
returns-clause-clock g c = λ h. own_fault fault.Clock c.args.notices c.args.faults c.put_log-done.result c.answer_of.result (g.H.Host.counts c.args.host.now) (g.H.Host.counts c.put_log-done.new.host) (g.K.Sink.faults c.args.out.now) (g.K.Sink.faults c.put_log-done.new.out) clock_alone
    (c.answer_of.ensures ∙ ap (λ fs. answer_by c.args.notices fs c.put_log-done.result) (c.reserve.ensures.items ∙ c.into_vec-faults.ensures)) c.requires.only c.put_log-done.ensures.cause h
