use Rattle.std.proofs.Common.{◌≡◌, rules}
use Rattle.lr_host.proofs.Counts.{onward_same, went_only}
use Rattle.lr_audit.proofs.Summing.{saw_told}
use Rattle.lr_audit.proofs.Filing.{lost, none_left}
use Rattle.lr_audit.proofs.auditing.files_of.Goals as goal

pub returns-in_err-dirs-clause-some : goal.returns-in_err-dirs-clause-some
returns-in_err-dirs-clause-some g c = lost c.from_residual.result none_left

pub returns-in_err-dirs-clause-went : goal.returns-in_err-dirs-clause-went
returns-in_err-dirs-clause-went g c = went_only c.from_residual.result c.args.faults.now.items _ _ (onward_same _)

pub returns-in_err-add_files-clause-some : goal.returns-in_err-add_files-clause-some
returns-in_err-add_files-clause-some g c = lost c.from_residual-in_err-add_files.result c.in_err-add_files.ensures.some

pub returns-clause-told : goal.returns-clause-told
returns-clause-told g c =
    let same : c.deref.result.now ≡ c.in_ok-dirs.dirs.items = search rules in
    saw_told c.args.looks.now c.in_ok-dirs.dirs.items c.deref.result.now c.new-files.result.items c.add_files.new.files.items c.put_in_order.new.paths.items c.args.faults.now.items c.add_files.new.faults.items _ _ c.in_ok-dirs.ensures same c.new-files.ensures.items c.in_ok-add_files.ensures.told c.put_in_order.ensures.same c.put_in_order.ensures.rising
