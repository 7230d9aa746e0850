use Rattle.lr_clock.proofs.Clocked.{own_seconds}
use Rattle.lr_audit.proofs.Calling.{clock_came, stop_came, no_room_came, clock_clocked, clock_reported, stop_clocked, stop_reported}
use Rattle.lr_audit.proofs.run.audit_at.Goals as goal

pub returns-in_default-clause-told : goal.returns-in_default-clause-told
returns-in_default-clause-told g c = no_room_came c.args.wanted.now c.args.zone.now _ c.args.seconds (own_seconds c.args.seconds c.ranges.seconds.sfits) _

pub returns-in-Ok-clock_in-clause-told : goal.returns-in-Ok-clock_in-clause-told
returns-in-Ok-clock_in-clause-told g c = clock_came c.args.wanted.now c.args.zone.now _ c.args.seconds (own_seconds c.args.seconds c.ranges.seconds.sfits) c.audit_confs.result c.in-Ok-clock_in.clock _ _ _ c.in-Ok-clock_in.ensures.told c.audit_confs.ensures.told c.audit_confs.ensures.some

pub returns-in-Ok-clock_in-clause-clock : goal.returns-in-Ok-clock_in-clause-clock
returns-in-Ok-clock_in-clause-clock g c = clock_clocked c.args.zone.now _ c.args.seconds c.in-Ok-clock_in.clock c.audit_confs.result _ _ (own_seconds c.args.seconds c.ranges.seconds.sfits) c.in-Ok-clock_in.ensures.clock c.audit_confs.ensures.counted

pub returns-in-Ok-clock_in-clause-counted : goal.returns-in-Ok-clock_in-clause-counted
returns-in-Ok-clock_in-clause-counted g c = clock_reported c.audit_confs.result _ _ _ c.in-Ok-clock_in.ensures.counts.0 c.audit_confs.ensures.counted

pub returns-in-Err-clause-told : goal.returns-in-Err-clause-told
returns-in-Err-clause-told g c = stop_came c.args.wanted.now c.args.zone.now _ c.args.seconds (own_seconds c.args.seconds c.ranges.seconds.sfits) c.without_clock.result c.in-Err.stop _ _ c.without_clock.ensures.audit c.without_clock.ensures.answer c.in-Err.ensures.stopped

pub returns-in-Err-clause-clock : goal.returns-in-Err-clause-clock
returns-in-Err-clause-clock g c = stop_clocked c.args.zone.now _ c.args.seconds (own_seconds c.args.seconds c.ranges.seconds.sfits) c.without_clock.result c.clock_in.result c.in-Err.stop _ c.without_clock.ensures.answer c.in-Err.is c.clock_in.ensures.fault

pub returns-in-Err-clause-counted : goal.returns-in-Err-clause-counted
returns-in-Err-clause-counted g c = stop_reported c.args.zone.now _ c.args.seconds (own_seconds c.args.seconds c.ranges.seconds.sfits) c.without_clock.result c.clock_in.result c.in-Err.stop _ _ _ c.without_clock.ensures.answer c.in-Err.is c.clock_in.ensures.fault
