use Rattle.std.proofs.Common.{◌≡◌, Err, rules}
use Rattle.lr_host.proofs.Counts.{went_none, went_on, onward_on}
use Rattle.lr_audit.proofs.Filing.{dirs_none, dirs_more, dirs_all, behind_dirs, lost, went_lost}
use Rattle.lr_audit.proofs.files.add_files.Goals as goal

pub loop-dir-init : goal.loop-dir-init
loop-dir-init g c = record { told = dirs_none c.args.files.now.items c.args.faults.now.items; went = went_none c.args.faults.now.items _ }

pub loop-dir-preserved : goal.loop-dir-preserved
loop-dir-preserved g c = record {
  told = dirs_more c.args.dirs.now c.loop-dir.dir-index c.dir-item.result c.args.files.now.items c.loop-dir.files.items c.add_dir.new.files.items c.args.faults.now.items c.loop-dir.faults.items c.add_dir.new.faults.items c.dir-item.is c.loop-dir-test.true c.loop-dir.invariant.told c.in_ok-add_dir.ensures.told;
  went = went_on c.args.faults.now.items c.loop-dir.faults.items c.add_dir.new.faults.items _ _ _ c.loop-dir.invariant.went c.in_ok-add_dir.ensures.went;
}

pub returns-in_err-add_dir-clause-some : goal.returns-in_err-add_dir-clause-some
returns-in_err-add_dir-clause-some g c = lost c.from_residual.result (behind_dirs _ c.args.files.now.items c.loop-dir.files.items c.args.faults.now.items c.loop-dir.faults.items c.loop-dir.invariant.told c.in_err-add_dir.ensures.some)

pub returns-in_err-add_dir-clause-went : goal.returns-in_err-add_dir-clause-went
returns-in_err-add_dir-clause-went g c =
    let failed : c.from_residual.result ≡ Err c.in_err-add_dir.field-0.0 = search rules in
    went_lost c.from_residual.result c.in_err-add_dir.field-0.0 c.args.faults.now.items c.add_dir.new.faults.items _ _ failed (onward_on _ _ _ c.loop-dir.invariant.went.onward c.in_err-add_dir.ensures.went)

pub returns-clause-told : goal.returns-clause-told
returns-clause-told g c = dirs_all c.args.dirs.now c.loop-dir.dir-index c.args.files.now.items c.loop-dir.files.items c.args.faults.now.items c.loop-dir.faults.items c.loop-dir-test.false c.loop-dir.invariant.told
