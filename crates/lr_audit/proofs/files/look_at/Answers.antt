use Rattle.lr_audit.proofs.Filing.{look_told, look_lost, failed_told, none_quiet, lost}
use Rattle.lr_host.proofs.Counts.{went_only}
use Rattle.lr_audit.proofs.files.look_at.Goals as goal

pub returns-in-Ok-clause-told : goal.returns-in-Ok-clause-told
returns-in-Ok-clause-told g c = look_told c.add_file.result c.args.path c.in-Ok.look c.args.files.now.items c.add_file.new.files.items c.args.faults.now.items c.in-Ok.ensures.told c.add_file.ensures

pub returns-in-Ok-clause-some : goal.returns-in-Ok-clause-some
returns-in-Ok-clause-some g c = look_lost c.add_file.result c.args.path c.in-Ok.look c.in-Ok.ensures.told

pub returns-in-Ok-clause-went : goal.returns-in-Ok-clause-went
returns-in-Ok-clause-went g c = went_only c.add_file.result c.args.faults.now.items _ _ c.in-Ok.ensures.counts

pub returns-in_err-push-in-Err-clause-some : goal.returns-in_err-push-in-Err-clause-some
returns-in_err-push-in-Err-clause-some g c = lost c.from_residual.result (none_quiet c.in-Err.ensures.told)

pub returns-in_ok-push-in-Err-clause-told : goal.returns-in_ok-push-in-Err-clause-told
returns-in_ok-push-in-Err-clause-told g c = failed_told c.args.path c.args.files.now.items c.args.faults.now.items c.push.new.self.items c.in-Err.ensures.told c.in_ok-push-in-Err.ensures.items
