use Rattle.lr_host.proofs.Counts.{went_behind}
use Rattle.lr_audit.proofs.Filing.{listed_told, listed_lost, stopped_told, stopped_lost, stopped_went}
use Rattle.lr_audit.proofs.files.add_dir.Goals as goal

pub returns-in-Ok-clause-told : goal.returns-in-Ok-clause-told
returns-in-Ok-clause-told g c = listed_told c.look_at_names.result c.args.dir.now c.in-Ok.listing.there c.in-Ok.listing.parent c.in-Ok.listing.names c.names.result.now c.args.files.now.items c.look_at_names.new.files.items c.args.faults.now.items c.look_at_names.new.faults.items _ _ _ c.names.ensures.names c.in-Ok.ensures.told c.look_at_names.ensures.told

pub returns-in-Ok-clause-some : goal.returns-in-Ok-clause-some
returns-in-Ok-clause-some g c = listed_lost c.look_at_names.result c.args.dir.now c.in-Ok.listing.there c.in-Ok.listing.parent c.in-Ok.listing.names _ _ _ c.in-Ok.ensures.told c.look_at_names.ensures.some

pub returns-in-Ok-clause-went : goal.returns-in-Ok-clause-went
returns-in-Ok-clause-went g c = went_behind c.look_at_names.result c.args.faults.now.items c.look_at_names.new.faults.items _ _ _ c.in-Ok.ensures.counts c.look_at_names.ensures.went

pub returns-in-Err-clause-told : goal.returns-in-Err-clause-told
returns-in-Err-clause-told g c = stopped_told c.add_stop.result c.args.dir.now c.in-Err.why c.args.files.now.items c.args.faults.now.items c.add_stop.new.faults.items c.in-Err.ensures.stopped c.add_stop.ensures.known c.add_stop.ensures.faults

pub returns-in-Err-clause-some : goal.returns-in-Err-clause-some
returns-in-Err-clause-some g c = stopped_lost c.add_stop.result c.args.dir.now c.in-Err.why c.in-Err.ensures.stopped

pub returns-in-Err-clause-went : goal.returns-in-Err-clause-went
returns-in-Err-clause-went g c = stopped_went c.add_stop.result c.in-Err.why c.args.faults.now.items c.add_stop.new.faults.items _ _ c.in-Err.ensures.cause c.in-Err.ensures.counts c.add_stop.ensures.faults
