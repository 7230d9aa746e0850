use Rattle.std.proofs.Common.{Err, ap, ◌∙◌}
use Rattle.lr_clock.proofs.Clocked.{own_seconds}
use Rattle.lr_cat.proofs.Calling.{at_seconds, clock_ends, clock_stops, out_at, stop_counted, stop_is_clock, stop_no_out, stop_out_of_range, stop_words}
use Rattle.lr_cat.proofs.run.call_at.Goals as goal

pub returns-in-Ok-clause-told : goal.returns-in-Ok-clause-told
returns-in-Ok-clause-told g c = at_seconds c.args.wanted.now c.call_confs.result _ c.args.seconds (own_seconds c.args.seconds c.ranges.seconds.sfits) (clock_ends c.args.wanted.now _ c.call_confs.result c.in-Ok.clock c.in-Ok.ensures.told c.call_confs.ensures.told)

pub returns-in-Err-clause-told : goal.returns-in-Err-clause-told
returns-in-Err-clause-told g c = at_seconds c.args.wanted.now c.without_clock.result _ c.args.seconds (own_seconds c.args.seconds c.ranges.seconds.sfits) (clock_stops c.args.wanted.now _ c.without_clock.result c.in-Err.stop (g.H.Host.told c.args.host.now) (g.H.Host.told c.clock_in.new.host) (g.K.Sink.taken c.args.out.now) c.without_clock.ensures (λ f e. (c.clock_in.ensures.fault f (c.in-Err.is ∙ ap Err e)).0) c.in-Err.ensures.stopped)

pub returns-in-Err-clause-counted : goal.returns-in-Err-clause-counted
returns-in-Err-clause-counted g c = stop_counted _ c.in-Err.stop c.without_clock.result (g.H.Host.counts c.args.host.now) (g.H.Host.counts c.clock_in.new.host) c.without_clock.ensures (λ f e. (c.clock_in.ensures.fault f (c.in-Err.is ∙ ap Err e)).0) c.clock_in.ensures.counts.0

pub returns-in-Err-clause-out : goal.returns-in-Err-clause-out
returns-in-Err-clause-out g c = λ h. absurd (stop_no_out _ c.in-Err.stop c.without_clock.result c.without_clock.ensures (λ f e. (c.clock_in.ensures.fault f (c.in-Err.is ∙ ap Err e)).0) h)

pub returns-in-Err-clause-clock : goal.returns-in-Err-clause-clock
returns-in-Err-clause-clock g c = λ h. out_at _ c.args.seconds (own_seconds c.args.seconds c.ranges.seconds.sfits) (stop_out_of_range _ c.in-Err.stop c.without_clock.result c.without_clock.ensures (λ f e. (c.clock_in.ensures.fault f (c.in-Err.is ∙ ap Err e)).0) h)

pub returns-in-Err-clause-no_clock : goal.returns-in-Err-clause-no_clock
returns-in-Err-clause-no_clock g c = λ none. stop_is_clock _ c.in-Err.stop c.without_clock.result c.without_clock.ensures (λ f e. (c.clock_in.ensures.fault f (c.in-Err.is ∙ ap Err e)).0)

pub returns-in-Err-clause-words : goal.returns-in-Err-clause-words
returns-in-Err-clause-words g c = stop_words c.in-Err.stop c.without_clock.result c.without_clock.ensures
