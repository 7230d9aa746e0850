use Rattle.std.proofs.Common.{subst}
use Rattle.lr_host.proofs.Left.{left_as}
use Rattle.lr_cat.specs.InternalCats.{EndsWork}
use Rattle.lr_cat.specs.Saw.{Works}
use Rattle.lr_cat.specs.Stops.{CameTo}
use Rattle.lr_cat.proofs.Working.{begin_failed, begin_held, begin_short, begun_so, begun_stops}
use Rattle.lr_rules.specs.declared.fault.CallKind.TheVariants as call
use Rattle.lr_rules.specs.declared.fault.Fault.TheVariants as fault
use Rattle.lr_host.proofs.Running.{is_on, did_begin}
use Rattle.lr_cat.proofs.locked.begin_to_end.Goals as goal

pub put_to_end-requires-clause-on : goal.put_to_end-requires-clause-on
put_to_end-requires-clause-on g c = is_on c.args.wanted.now.state c.args.clock.now c.args.rules.now (did_begin c.args.wanted.now.state c.args.clock.now c.args.rules.now c.in-Ok-true.field-0 c.in-Ok-true.field-0-test c.in-Ok-true.ensures.told)

pub returns-in-Ok-true-clause-came : goal.returns-in-Ok-true-clause-came
returns-in-Ok-true-clause-came g c = begun_so c.args.wanted.now c.args.clock.now c.args.rules.now c.args.family.now.naming c.put_to_end.result (g.H.Host.told c.args.host.now) (g.H.Host.told c.begin.new.self) (g.H.Host.told c.put_to_end.new.host) (g.K.Sink.taken c.args.out.now) (g.K.Sink.taken c.put_to_end.new.out) (did_begin c.args.wanted.now.state c.args.clock.now c.args.rules.now c.in-Ok-true.field-0 c.in-Ok-true.field-0-test c.in-Ok-true.ensures.told)
    (subst (λ x. CameTo (λ how texts ts. EndsWork (Works c.args.family.now.naming x how texts) ts) c.put_to_end.result (g.H.Host.told c.begin.new.self) (g.H.Host.told c.put_to_end.new.host) (g.K.Sink.taken c.args.out.now) (g.K.Sink.taken c.put_to_end.new.out))
    c.requires.log c.put_to_end.ensures.came)

pub returns-in-Ok-true-clause-stopped : goal.returns-in-Ok-true-clause-stopped
returns-in-Ok-true-clause-stopped g c = begun_stops c.args.wanted.now c.args.clock.now c.args.rules.now c.args.family.now.naming c.put_to_end.result (g.H.Host.told c.args.host.now) (g.H.Host.told c.begin.new.self) (g.H.Host.told c.put_to_end.new.host) (g.K.Sink.taken c.args.out.now) (g.K.Sink.taken c.put_to_end.new.out) (did_begin c.args.wanted.now.state c.args.clock.now c.args.rules.now c.in-Ok-true.field-0 c.in-Ok-true.field-0-test c.in-Ok-true.ensures.told) c.put_to_end.ensures.held c.put_to_end.ensures.short
    (subst (λ x. CameTo (λ how texts ts. EndsWork (Works c.args.family.now.naming x how texts) ts) c.put_to_end.result (g.H.Host.told c.begin.new.self) (g.H.Host.told c.put_to_end.new.host) (g.K.Sink.taken c.args.out.now) (g.K.Sink.taken c.put_to_end.new.out))
    c.requires.log c.put_to_end.ensures.came)

pub returns-in-Ok-false-clause-stopped : goal.returns-in-Ok-false-clause-stopped
returns-in-Ok-false-clause-stopped g c = begin_held c.args.wanted.now c.args.clock.now c.args.rules.now c.args.family.now.naming c.in-Ok-false.field-0 c.in-Ok-false.field-0-test c.in-Ok-false.ensures.told

pub returns-clause-came : goal.returns-clause-came
returns-clause-came g c = begin_failed c.args.wanted.now c.args.clock.now c.args.rules.now c.args.family.now.naming c.args.names.state (g.K.Sink.taken c.args.out.now) c.requires.state (left_as c.in-Err.ensures.told (λ ts h. h))

pub returns-clause-stopped : goal.returns-clause-stopped
returns-clause-stopped g c = begin_short c.args.wanted.now c.args.clock.now c.args.rules.now c.args.family.now.naming (fault.Call call.Begin c.args.names.state) c.in-Err.ensures.told
