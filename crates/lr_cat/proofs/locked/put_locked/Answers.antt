use Rattle.std.proofs.Common.{true, false}
use Rattle.lr_rules.specs.declared.fault.Fault.TheVariants as fault
use Rattle.lr_family.specs.Directory.{dir_fault_of}
use Rattle.lr_family.proofs.Whole.{seen_as}
use Rattle.lr_cat.specs.declared.stop.CatStop.TheVariants as stop
use Rattle.lr_cat.specs.Cats.{Cats}
use Rattle.lr_cat.proofs.Working.{cats_so, cats_stops, dir_missing, dir_short, dir_stopped, stop_is, stops_is}
use Rattle.lr_cat.proofs.locked.put_locked.Goals as goal

pub returns-in-Ok-true-clause-came : goal.returns-in-Ok-true-clause-came
returns-in-Ok-true-clause-came g c = cats_so c.args.wanted.now c.args.clock.now c.args.rules.now c.args.family.now.naming c.args.names.dir c.begin_to_end.result (g.H.Host.told c.args.host.now) (g.H.Host.told c.look_for_dir.new.host) (g.H.Host.told c.begin_to_end.new.host)
    (g.K.Sink.taken c.args.out.now) (g.K.Sink.taken c.begin_to_end.new.out) c.requires.dir (seen_as c.args.names.dir c.in-Ok-true.field-0 true c.in-Ok-true.field-0-test c.in-Ok-true.ensures.told) c.begin_to_end.ensures.came

pub returns-in-Ok-true-clause-stopped : goal.returns-in-Ok-true-clause-stopped
returns-in-Ok-true-clause-stopped g c = cats_stops c.args.wanted.now c.args.clock.now c.args.rules.now c.args.family.now.naming c.args.names.dir c.begin_to_end.result (g.H.Host.told c.args.host.now) (g.H.Host.told c.look_for_dir.new.host) (g.H.Host.told c.begin_to_end.new.host) c.requires.dir (seen_as c.args.names.dir c.in-Ok-true.field-0 true c.in-Ok-true.field-0-test c.in-Ok-true.ensures.told) c.begin_to_end.ensures.stopped

pub returns-in-Ok-false-clause-came : goal.returns-in-Ok-false-clause-came
returns-in-Ok-false-clause-came g c = stop_is (λ how texts ts. Cats c.args.wanted.now c.args.clock.now c.args.rules.now c.args.family.now.naming how texts ts) c.no_dir.result (stop.Fault (fault.NoDir c.args.names.dir)) (g.H.Host.told c.args.host.now) (g.H.Host.told c.look_for_dir.new.host) (g.K.Sink.taken c.args.out.now) (g.K.Sink.taken c.args.out.now) c.no_dir.ensures
    (dir_missing c.args.wanted.now c.args.clock.now c.args.rules.now c.args.family.now.naming c.args.names.dir (g.K.Sink.taken c.args.out.now) c.requires.dir (seen_as c.args.names.dir c.in-Ok-false.field-0 false c.in-Ok-false.field-0-test c.in-Ok-false.ensures.told))

pub returns-in-Ok-false-clause-stopped : goal.returns-in-Ok-false-clause-stopped
returns-in-Ok-false-clause-stopped g c = stops_is c.args.wanted.now c.args.clock.now c.args.rules.now c.no_dir.result (stop.Fault (fault.NoDir c.args.names.dir)) c.no_dir.ensures (dir_short c.args.wanted.now c.args.clock.now c.args.rules.now c.args.family.now.naming (fault.NoDir c.args.names.dir) c.in-Ok-false.ensures.told)

pub returns-in-Err-clause-came : goal.returns-in-Err-clause-came
returns-in-Err-clause-came g c = stop_is (λ how texts ts. Cats c.args.wanted.now c.args.clock.now c.args.rules.now c.args.family.now.naming how texts ts) c.not_dir.result (stop.Fault (dir_fault_of c.in-Err.why c.args.names.dir)) (g.H.Host.told c.args.host.now) (g.H.Host.told c.look_for_dir.new.host) (g.K.Sink.taken c.args.out.now) (g.K.Sink.taken c.args.out.now) c.not_dir.ensures
    (dir_stopped c.args.wanted.now c.args.clock.now c.args.rules.now c.args.family.now.naming c.args.names.dir c.in-Err.why (g.K.Sink.taken c.args.out.now) c.requires.dir c.in-Err.ensures.stopped)

pub returns-in-Err-clause-stopped : goal.returns-in-Err-clause-stopped
returns-in-Err-clause-stopped g c = stops_is c.args.wanted.now c.args.clock.now c.args.rules.now c.not_dir.result (stop.Fault (dir_fault_of c.in-Err.why c.args.names.dir)) c.not_dir.ensures (dir_short c.args.wanted.now c.args.clock.now c.args.rules.now c.args.family.now.naming (dir_fault_of c.in-Err.why c.args.names.dir) c.in-Err.ensures.stopped)
