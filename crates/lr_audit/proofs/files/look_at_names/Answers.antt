use Rattle.lr_host.proofs.Counts.{onward_same, went_only}
use Rattle.lr_audit.proofs.Filing.{names_told, none_left, lost}
use Rattle.lr_audit.proofs.files.look_at_names.Goals as goal

pub returns-in_err-paths-clause-some : goal.returns-in_err-paths-clause-some
returns-in_err-paths-clause-some g c = lost c.from_residual.result none_left

pub returns-in_err-paths-clause-went : goal.returns-in_err-paths-clause-went
returns-in_err-paths-clause-went g c = went_only c.from_residual.result c.args.faults.now.items _ _ (onward_same _)

pub returns-clause-told : goal.returns-clause-told
returns-clause-told g c = names_told c.look_at_each.result c.in_ok-paths.paths.items _ c.args.files.now.items c.look_at_each.new.files.items c.args.faults.now.items c.look_at_each.new.faults.items _ _ c.in_ok-paths.ensures c.look_at_each.ensures.told
