use Rattle.std.proofs.Common.{arith, rules}
use Rattle.lr_host.specs.Told.{Rose}
use Rattle.lr_move.proofs.SettingOut.{sync_can, move_can, synced_left, moved_left, stops_members, stops_sync, stops_log, cause_members, cause_sync, cause_moved, exactly_refused, exactly_by}
use Rattle.lr_move.proofs.setting_aside.set_aside.Goals as goal

pub returns-in-Err-clause-refused : goal.returns-in-Err-clause-refused
returns-in-Err-clause-refused g c = stops_members c.args.ready.now c.args.dir.now c.args.tmp.now c.in-Err.why c.in-Err.ensures.refused

pub returns-in-Err-clause-not_file : goal.returns-in-Err-clause-not_file
returns-in-Err-clause-not_file g c =
    exactly_refused c.args.ready.now c.args.dir.now c.args.tmp.now c.in-Err.why (stops_members c.args.ready.now c.args.dir.now c.args.tmp.now c.in-Err.why c.in-Err.ensures.refused)

pub returns-in-Err-clause-cause : goal.returns-in-Err-clause-cause
returns-in-Err-clause-cause g c = cause_members c.args.ready.now c.args.dir.now c.args.tmp.now c.in-Err.why (g.H.Host.counts c.args.host.now) (g.H.Host.counts c.shift.new.host) c.in-Err.ensures.cause

pub sync_members-requires : goal.sync_members-requires
sync_members-requires g c = sync_can c.args.ready.now c.args.dir.now c.args.tmp.now c.requires.fits c.in_default.ensures.told

pub returns-in-Err-sync_members-clause-refused : goal.returns-in-Err-sync_members-clause-refused
returns-in-Err-sync_members-clause-refused g c =
    stops_sync c.args.ready.now c.args.dir.now c.args.tmp.now c.in-Err-sync_members.why c.in-Err-sync_members.ensures.refused c.in_default.ensures.told c.in-Err-sync_members.ensures.told

pub returns-in-Err-sync_members-clause-not_file : goal.returns-in-Err-sync_members-clause-not_file
returns-in-Err-sync_members-clause-not_file g c =
    exactly_refused c.args.ready.now c.args.dir.now c.args.tmp.now c.in-Err-sync_members.why
    (stops_sync c.args.ready.now c.args.dir.now c.args.tmp.now c.in-Err-sync_members.why c.in-Err-sync_members.ensures.refused c.in_default.ensures.told c.in-Err-sync_members.ensures.told)

pub returns-in-Err-sync_members-clause-cause : goal.returns-in-Err-sync_members-clause-cause
returns-in-Err-sync_members-clause-cause g c =
    let rose : Rose (g.H.Host.counts c.args.host.now).faults (g.H.Host.counts c.sync_members.new.host).faults = omega (arith, c.in_default.ensures.counts, c.in-Err-sync_members.ensures.cause) in
    cause_sync c.args.ready.now c.args.dir.now c.args.tmp.now c.in-Err-sync_members.why (g.H.Host.counts c.args.host.now) (g.H.Host.counts c.sync_members.new.host) c.in-Err-sync_members.ensures.refused rose

pub move_log-requires : goal.move_log-requires
move_log-requires g c = move_can c.args.ready.now c.args.dir.now c.args.tmp.now c.requires.fits (synced_left c.args.ready.now c.args.dir.now c.args.tmp.now c.in_default.ensures.told c.in_default-sync_members.ensures.told)

pub returns-clause-told : goal.returns-clause-told
returns-clause-told g c =
    moved_left c.args.ready.now c.args.dir.now c.args.tmp.now c.move_log.result (synced_left c.args.ready.now c.args.dir.now c.args.tmp.now c.in_default.ensures.told c.in_default-sync_members.ensures.told) c.move_log.ensures.told

pub returns-clause-refused : goal.returns-clause-refused
returns-clause-refused g c =
    stops_log c.args.ready.now c.args.dir.now c.args.tmp.now c.move_log.result c.move_log.ensures.refused
    (synced_left c.args.ready.now c.args.dir.now c.args.tmp.now c.in_default.ensures.told c.in_default-sync_members.ensures.told) c.move_log.ensures.told

pub returns-clause-not_file : goal.returns-clause-not_file
returns-clause-not_file g c =
    let ready = c.args.ready.now in
    let dir = c.args.dir.now in
    let tmp = c.args.tmp.now in
    let synced = synced_left ready dir tmp c.in_default.ensures.told c.in_default-sync_members.ensures.told in
    exactly_by ready dir tmp c.move_log.result (moved_left ready dir tmp c.move_log.result synced c.move_log.ensures.told)
    (stops_log ready dir tmp c.move_log.result c.move_log.ensures.refused synced c.move_log.ensures.told)

pub returns-clause-cause : goal.returns-clause-cause
returns-clause-cause g c =
    cause_moved c.args.ready.now c.args.dir.now c.args.tmp.now c.move_log.result (g.H.Host.counts c.args.host.now) (g.H.Host.counts c.sync_members.new.host) (g.H.Host.counts c.move_log.new.host) (search rules) c.move_log.ensures.refused
    c.move_log.ensures.cause
