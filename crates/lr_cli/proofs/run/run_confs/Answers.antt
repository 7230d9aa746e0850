use Rattle.std.proofs.Common.{Ok, Err}
use Rattle.lr_host.proofs.Counts.{onward_on}
use Rattle.lr_host.proofs.Known.{left_journal}
use Rattle.lr_cli.proofs.Came.{confs_came, lacks_came}
use Rattle.lr_cli.proofs.Reading.{reading_counted, both_went, confs_shape, lacking_shape}
use Rattle.lr_cli.proofs.run.run_confs.Goals as goal

pub returns-in_default-clause-told : goal.returns-in_default-clause-told
returns-in_default-clause-told g c = lacks_came c.args.request.now c.args.clock.now c.as_slice.result.now c.as_slice.ensures c.in_default.ensures.lacking

pub returns-in_default-clause-shape : goal.returns-in_default-clause-shape
returns-in_default-clause-shape g c = lacking_shape c.args.clock.now c.as_slice.result.now c.in_default.ensures.lacking

pub run-requires : goal.run-requires
run-requires g c = record { disk = left_journal c.in-Ok.ensures.told c.requires.disk }

pub returns-in-Ok-run-clause-told : goal.returns-in-Ok-run-clause-told
returns-in-Ok-run-clause-told g c = confs_came c.args.request.now c.args.clock.now c.in-Ok.reading c.into_vec.result.items c.into_vec.ensures (Ok c.in-Ok-run.ran) (rw c.as_slice.ensures at c.in-Ok.ensures.told) c.in-Ok-run.ensures.told

pub returns-in-Ok-run-clause-shape : goal.returns-in-Ok-run-clause-shape
returns-in-Ok-run-clause-shape g c = confs_shape c.args.clock.now c.as_slice.result.now _ c.in-Ok.ensures.told c.run.ensures.shape

pub returns-in-Ok-run-clause-went : goal.returns-in-Ok-run-clause-went
returns-in-Ok-run-clause-went g c = both_went c.into_vec.result.items c.in-Ok.reading.faults c.in-Ok-run.ran.faults.items _ _ _ c.into_vec.ensures
    (reading_counted c.in-Ok.reading.faults _ _ c.in-Ok.ensures.only c.in-Ok.ensures.counted c.read_all.ensures.counts.0) c.read_all.ensures.counts c.in-Ok-run.ensures.went

pub returns-clause-went : goal.returns-clause-went
returns-clause-went g c = onward_on _ _ _ c.read_all.ensures.counts c.in-Err.ensures.went

pub returns-clause-told : goal.returns-clause-told
returns-clause-told g c = confs_came c.args.request.now c.args.clock.now c.in-Ok.reading c.into_vec.result.items c.into_vec.ensures (Err c.in-Err.stop) (rw c.as_slice.ensures at c.in-Ok.ensures.told) c.in-Err.ensures.told

pub returns-clause-shape : goal.returns-clause-shape
returns-clause-shape g c = confs_shape c.args.clock.now c.as_slice.result.now _ c.in-Ok.ensures.told c.run.ensures.shape
