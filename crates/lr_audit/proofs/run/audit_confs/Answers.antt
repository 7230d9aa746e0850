use Rattle.std.proofs.Common.{refl}
use Rattle.lr_audit.proofs.Calling.{confs_told, confs_counted, reading_lost, reading_behind}
use Rattle.lr_audit.proofs.Filing.{lost, none_left}
use Rattle.lr_audit.proofs.run.audit_confs.Goals as goal

pub returns-in_err-settings-clause-some : goal.returns-in_err-settings-clause-some
returns-in_err-settings-clause-some g c = lost c.from_residual.result none_left

pub returns-in_err-reading-clause-some : goal.returns-in_err-reading-clause-some
returns-in_err-reading-clause-some g c = lost c.from_residual-in_err-reading.result (reading_lost c.as_slice.result.now _ _ c.in_err-reading.ensures.lacking)

pub returns-in_err-audit-clause-some : goal.returns-in_err-audit-clause-some
returns-in_err-audit-clause-some g c = lost c.from_residual-in_err-audit.result (reading_behind c.as_slice.result.now c.in_ok-reading.reading _ _ _ c.in_ok-reading.ensures.told c.in_err-audit.ensures.some)

pub returns-clause-told : goal.returns-clause-told
returns-clause-told g c = confs_told c.args.wanted.now c.args.clock.now c.in_ok-reading.reading c.as_slice.result.now _ c.in_ok-audit.audit _ _ _ _ _ _ c.as_slice.ensures c.into_vec-faults.ensures c.in_ok-settings.ensures.state refl refl refl c.in_ok-reading.ensures.told c.in_ok-audit.ensures.told

pub returns-clause-counted : goal.returns-clause-counted
returns-clause-counted g c = confs_counted c.in_ok-reading.reading.faults c.into_vec-faults.result.items c.audit_rules.new.faults.items _ _ _ c.into_vec-faults.ensures c.in_ok-reading.ensures.only c.in_ok-reading.ensures.counted c.read_all.ensures.counts.0 c.in_ok-audit.ensures.went
