use Rattle.std.proofs.Common.{Err, inl, inr, ap, sym, ◌∙◌, subst}
use Rattle.lr_rules.specs.declared.fault.Fault.TheVariants as fault
use Rattle.lr_clock.proofs.Clocked.{own_seconds}
use Rattle.lr_cat.specs.declared.outcome.CatOutcome.{CatOutcome}
use Rattle.lr_cat.specs.Says.{HasCounted, HasFault}
use Rattle.lr_cat.proofs.Answering.{noted_so, words_so}
use Rattle.lr_cat.proofs.Calling.{no_words_end, short_words_end}
use Rattle.lr_cat.proofs.Still.{says_nothing, says_so}
use Rattle.lr_cat.proofs.top.lrcat.Goals as goal

pub returns-in-Err-Refused-clause-told : goal.returns-in-Err-Refused-clause-told
returns-in-Err-Refused-clause-told g c = says_nothing c.args.here.now c.args.words.now c.args.now c.noted_early.result _ _ _ _ c.requires
    (no_words_end c.args.here.now c.args.words.now c.args.now c.noted_early.result (g.H.Host.told c.args.host.now) (g.K.Sink.taken c.args.out.now) c.noted_early.ensures.same (c.wanted_of.ensures.refused (c.in-Err-Refused.is ∙ ap Err c.in-Err-Refused.field-0-is)))
    (inl c.noted_early.ensures.same)

pub returns-in-Err-Memory-clause-told : goal.returns-in-Err-Memory-clause-told
returns-in-Err-Memory-clause-told g c = says_nothing c.args.here.now c.args.words.now c.args.now c.noted_early-in-Err-Memory.result _ _ _ _ c.requires
    (short_words_end c.args.here.now c.args.words.now c.args.now c.noted_early-in-Err-Memory.result (g.H.Host.told c.args.host.now) (g.K.Sink.taken c.args.out.now) c.noted_early-in-Err-Memory.ensures.same)
    (inr c.noted_early-in-Err-Memory.ensures.same)

pub returns-clause-told : goal.returns-clause-told
returns-clause-told g c = says_so c.args.here.now c.args.words.now c.args.now c.noted.result (g.H.Host.counts c.args.host.now) (g.H.Host.counts c.call_at-outcome.new.host) (g.K.Sink.faults c.args.out.now) (g.K.Sink.faults c.call_at-outcome.new.out) c.requires
    (words_so c.args.here.now c.args.words.now _ c.args.now c.in-Ok.wanted c.call_at-outcome.result c.noted.result c.in-Ok.ensures.wanted (own_seconds c.args.now c.ranges.now.sfits) c.noted.ensures.same c.call_at-outcome.ensures.told)
    (subst (λ (z : CatOutcome). HasCounted z (g.H.Host.counts c.args.host.now) (g.H.Host.counts c.call_at-outcome.new.host)) (sym c.noted.ensures.same) c.call_at-outcome.ensures.counted)
    (λ h. c.call_at-outcome.ensures.out (subst (λ (z : CatOutcome). HasFault z fault.Out) c.noted.ensures.same h))

pub returns-clause-notes : goal.returns-clause-notes
returns-clause-notes g c = noted_so c.args.here.now c.args.words.now c.in-Ok.wanted c.call_at-outcome.result c.noted.result (g.N.Sink.taken c.args.notes.now) (g.N.Sink.taken c.noted.new.notes) (g.N.Sink.faults c.args.notes.now) (g.N.Sink.faults c.noted.new.notes)
    c.in-Ok.ensures.wanted c.noted.ensures.same c.noted.ensures.noted
